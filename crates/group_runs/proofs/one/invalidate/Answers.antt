use Rattle.std.proofs.Common.{◌≡◌, Some, None, refl, sym}
use Rattle.group_runs.specs.Sheets.{row_at}
use Rattle.group_runs.proofs.RowLemmas.{set_apart}
use Rattle.group_runs.proofs.SumLemmas.{fewer_set}
use Rattle.group_runs.proofs.one.invalidate.Goals as goal

pub returns-in-Some-clause-others : goal.returns-in-Some-clause-others
returns-in-Some-clause-others c =
    let known : Some c.in-Some.row.now ≡ row_at c.args.rows.now.entries c.args.sheet.now = c.in-Some.ensures.value in
    set_apart c.args.rows.now.entries (c.get_mut.follows.lender None).entries c.args.sheet.now None ((c.get_mut.follows.holds None).3 (rw (sym known) refl)).0

pub returns-in-Some-clause-counted : goal.returns-in-Some-clause-counted
returns-in-Some-clause-counted c =
    let known : Some c.in-Some.row.now ≡ row_at c.args.rows.now.entries c.args.sheet.now = c.in-Some.ensures.value in
    fewer_set c.args.rows.now.entries c.args.sheet.now c.in-Some.row.now (sym known) (c.get_mut.follows.lender None).entries (c.get_mut.follows.holds None).0
