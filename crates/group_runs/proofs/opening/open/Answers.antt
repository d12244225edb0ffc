use Rattle.std.proofs.Common.{◌≡◌, Some, None, arith, ap, refl, rules, sym}
use Rattle.std.specs.Str.{bytes_eq}
use Rattle.std.proofs.lemmas.Map.Entries.{sum_by_puts_entry}
use Rattle.net_flood.specs.Grouping.{GroupsData}
use Rattle.group_runs.specs.Sheets.{asked_of, row_at}
use Rattle.group_runs.proofs.RowLemmas.{opens, set_apart}
use Rattle.group_runs.proofs.SumLemmas.{same_set}
use Rattle.group_runs.proofs.opening.open.Goals as goal

pub returns-in-Some-clause-others : goal.returns-in-Some-clause-others
returns-in-Some-clause-others c =
    let row = c.open_row.new.row in
    let known : Some c.in-Some.row.now ≡ row_at c.args.rows.now.entries c.args.sheet.now = c.in-Some.ensures.value in
    set_apart c.args.rows.now.entries (c.get_mut.follows.lender row).entries c.args.sheet.now row ((c.get_mut.follows.holds row).3 (rw (sym known) refl)).0

pub returns-in-Some-clause-counted : goal.returns-in-Some-clause-counted
returns-in-Some-clause-counted c =
    let row = c.open_row.new.row in
    let known : Some c.in-Some.row.now ≡ row_at c.args.rows.now.entries c.args.sheet.now = c.in-Some.ensures.value in
    same_set c.args.rows.now.entries c.args.sheet.now c.in-Some.row.now (sym known) (c.get_mut.follows.lender row).entries row (c.get_mut.follows.holds row).0 c.open_row.ensures.asked

pub returns-clause-sets : goal.returns-clause-sets
returns-clause-sets c =
    let none : None ≡ row_at c.args.rows.now.entries c.args.sheet.now = search rules in
    let updates = rw (c.get_mut.follows.holds-at-none, c.in_ok-name.ensures.cases) at c.in_ok-insert.ensures.updates in
    opens c.args.rows.now.entries c.insert.new.self.entries c.args.sheet.now c.new.result updates.0 (sym none)
    (ap (λ (g : GroupsData). g.fresh) c.new.ensures.empty) (ap (λ (g : GroupsData). g.conductors) c.new.ensures.empty)

pub returns-clause-others : goal.returns-clause-others
returns-clause-others c =
    let updates = rw (c.get_mut.follows.holds-at-none, c.in_ok-name.ensures.cases) at c.in_ok-insert.ensures.updates in
    set_apart c.args.rows.now.entries c.insert.new.self.entries c.args.sheet.now (Some c.new.result) updates.0

pub returns-clause-counted : goal.returns-clause-counted
returns-clause-counted c =
    let old = rw c.get_mut.follows.holds-at-none at c.in_ok-insert.ensures.old in
    let puts = rw c.get_mut.follows.holds-at-none at c.in_ok-insert.ensures.entries in
    let sum = sum_by_puts_entry asked_of bytes_eq c.args.rows.now c.insert.new.self c.in_ok-name.name (Some c.new.result) c.in_ok-insert.field-0 old puts in
    let none : asked_of (Some c.new.result) ≡ 0 = ap (λ (g : GroupsData). g.asked) c.new.ensures.empty in
    omega arith
