use Rattle.std.proofs.Common.{◌≡◌, ◌∙◌, ◌+◌, ℕ, Bor, List, map, sym, subst, take, arith}
use Rattle.std.proofs.lemmas.List.{take_all}
use Rattle.project_model.specs.declared.change.Placed.{Placed}
use Rattle.project_model.specs.Projects.{ProjectData}
use Rattle.project_model.specs.Tables.{row_now}
use Rattle.hierarchy.specs.steps.SheetRows.{IsTableOf}
use Rattle.hierarchy.proofs.TableLemmas.{map_take_more, table_names, table_start}
use Rattle.hierarchy.proofs.filling.add_objects.Goals as goal

pub loop-row-init : goal.loop-row-init
loop-row-init c =
    let start = table_start c.args.project.now.contents c.args.names.now c.args.table.now.items c.requires.empty c.requires.names in
    (start.0, start.1, c.new-met.ensures)

pub add_object-requires-clause-named : goal.add_object-requires-clause-named
add_object-requires-clause-named c = table_names c.args.project.now.contents (map row_now (take c.loop-row.row-index c.args.rows.now)) c.loop-row.table.items c.loop-row.invariant.0 ∙ sym c.requires.names

pub loop-row-preserved : goal.loop-row-preserved
loop-row-preserved c =
    let p = c.args.project.now.contents in
    let met = c.loop-row.met in
    let same : met ≡ p = c.loop-row.invariant.2 in
    let rows = map row_now (take c.loop-row.row-index c.args.rows.now) in
    let items = c.add_object.new.table.items in
    let more = map_take_more row_now c.args.rows.now c.loop-row.row-index c.row-item.result (omega arith) c.row-item.is in
    let before = subst (λ (q : ProjectData). IsTableOf q rows c.loop-row.table.items) (sym same) c.loop-row.invariant.0 in
    let after = subst (λ (rows : List (ℕ × Placed)). IsTableOf met rows items) (sym more) (c.in_ok-near.ensures.table rows before) in (
      subst (λ (q : ProjectData). IsTableOf q (map row_now (take (c.loop-row.row-index + 1) c.args.rows.now)) items) same after,
      c.in_ok-near.ensures.light c.loop-row.row-index c.loop-row.invariant.1,
      c.in_ok-near.ensures.kept ∙ same,
    )

pub returns : goal.returns
returns c =
    let whole = take_all c.loop-row.row-index c.args.rows.now (omega (arith, c.loop-row-test.false)) in
    subst (λ (rows : List (ℕ × Bor Placed)). IsTableOf c.args.project.now.contents (map row_now rows) c.loop-row.table.items) whole c.loop-row.invariant.0
