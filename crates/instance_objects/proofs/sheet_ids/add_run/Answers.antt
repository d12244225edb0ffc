use Rattle.std.proofs.Common.{[], None, Some, drop, map, refl, rules, subst, sym, ◌∙◌, ◌∷◌, ◌≡◌}
use Rattle.std.specs.BTreeMap.{get}
use Rattle.geda_defs.specs.Order.{by_bytes}
use Rattle.project_model.specs.Tables.{row_now}
use Rattle.instance_objects.specs.steps.SheetIds.{AddsRun, PutsRun}
use Rattle.instance_objects.proofs.Outcomes.{if_ok}
use Rattle.instance_objects.proofs.SheetIdLemmas.{adds_run}
use Rattle.instance_objects.proofs.sheet_ids.add_run.Goals as goal

pub returns-in-Some-clause-ids : goal.returns-in-Some-clause-ids
returns-in-Some-clause-ids c =
    let table = c.args.table.now in
    let sheet = c.args.placed.now.sheet in
    let ids = c.push_with_run.new.ids in
    let lent = c.args.rows.now in
    let rows = (c.args.id, c.args.placed.now) ∷ map row_now (drop c.args.from lent) in
    let known : Some c.in-Some.ids.now ≡ get by_bytes table sheet = c.in-Some.ensures.value in
    if_ok (λ end. PutsRun sheet c.in-Some.ids.now ids rows (map row_now (drop end lent)))
    (λ end. AddsRun table (c.get_mut.follows.lender ids) rows (map row_now (drop end lent)))
    (λ end puts. adds_run table (c.get_mut.follows.lender ids) (Some c.in-Some.ids.now) sheet sheet ids rows (map row_now (drop end lent)) known refl puts ((c.get_mut.follows.holds ids).3 (rw (sym known) refl)))
    c.push_with_run.result c.push_with_run.ensures.ids

pub returns-clause-ids : goal.returns-clause-ids
returns-clause-ids c =
    let table = c.args.table.now in
    let sheet = c.args.placed.now.sheet in
    let ids = c.push_with_run-2.new.ids in
    let rows = (c.args.id, c.args.placed.now) ∷ map row_now (drop c.args.from c.args.rows.now) in
    let rest = map row_now (drop c.in_ok-end.end c.args.rows.now) in
    let none : None ≡ get by_bytes table sheet = search rules in
    let puts : PutsRun sheet [] ids rows rest = subst (λ old. PutsRun sheet old ids rows rest) (c.from_vec-ids.ensures ∙ c.new.ensures.items) c.in_ok-end.ensures.ids in
    adds_run table c.insert.new.self None sheet c.in_ok-clone.field-0 ids rows rest none (search rules) puts (rw c.get_mut.follows.holds-at-none at c.in_ok-insert.ensures.updates)
