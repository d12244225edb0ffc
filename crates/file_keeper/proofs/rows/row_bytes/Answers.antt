use Rattle.std.proofs.Common.{arith, subst}
use Rattle.edit_entries.specs.Entries.{EntryIsInRange}
use Rattle.file_keeper.proofs.RowLaws.{row_written}
use Rattle.file_keeper.proofs.rows.row_bytes.Goals as goal

pub returns-clause-row : goal.returns-clause-row
returns-clause-row c =
    let read = c.in_ok-bytes in
    let summed = c.in_ok-extend_from_slice.ensures.items in
    let value = c.as_slice-2.ensures.value in
    let sum = c.in_ok-sum.ensures in
    let text = c.as_slice.ensures.value in
    let whole = c.in_ok-push.ensures.items in
    row_written _ read.bytes.items c.args.entry.now
    (record {
      low = omega arith;
      high = omega arith;
      edit = λ is. absurd (omega (arith, is));
      entry = subst EntryIsInRange c.entry.view_is c.entry.invariant;
    })
    read.ensures.reads_back (let w = whole in let s = summed in let v = value in
    let u = sum in let t = text in cc)
