use Rattle.std.proofs.Common.{◌≡◌, Some, refl, subst, sym}
use Rattle.group_runs.specs.Sheets.{HasEntry, row_at}
use Rattle.group_runs.proofs.RowLemmas.{set_apart, set_here}
use Rattle.group_runs.proofs.SumLemmas.{counted_set}
use Rattle.group_runs.proofs.one.insert_one.Goals as goal

pub returns-in-Some-clause-others : goal.returns-in-Some-clause-others
returns-in-Some-clause-others c =
    let row = c.insert_in_row.new.row in
    let known : Some c.in-Some.row.now ≡ row_at c.args.rows.now.entries c.args.sheet.now = c.in-Some.ensures.value in
    set_apart c.args.rows.now.entries (c.get_mut.follows.lender row).entries c.args.sheet.now row ((c.get_mut.follows.holds row).3 (rw (sym known) refl)).0

pub returns-in-Some-clause-entry : goal.returns-in-Some-clause-entry
returns-in-Some-clause-entry c =
    let row = c.insert_in_row.new.row in
    let known : Some c.in-Some.row.now ≡ row_at c.args.rows.now.entries c.args.sheet.now = c.in-Some.ensures.value in
    subst HasEntry (sym (set_here c.args.rows.now.entries (c.get_mut.follows.lender row).entries c.args.sheet.now row ((c.get_mut.follows.holds row).3 (rw (sym known) refl)).0)) tt

pub returns-in-Some-clause-counted : goal.returns-in-Some-clause-counted
returns-in-Some-clause-counted c =
    let row = c.insert_in_row.new.row in
    let known : Some c.in-Some.row.now ≡ row_at c.args.rows.now.entries c.args.sheet.now = c.in-Some.ensures.value in
    counted_set c.args.rows.now.entries c.args.sheet.now c.in-Some.row.now (sym known) (c.get_mut.follows.lender row).entries row c.args.steps.now c.insert_in_row.new.steps
    (c.get_mut.follows.holds row).0 c.insert_in_row.ensures.counted
