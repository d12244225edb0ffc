use Rattle.std.proofs.Common.{◌∙◌, ℕ, List, ap, map}
use Rattle.std.specs.FinMap.{keys}
use Rattle.project_model.specs.declared.change.Placed.{Placed}
use Rattle.project_model.specs.Tables.{row_now}
use Rattle.hierarchy.specs.SheetTable.{sheet_of}
use Rattle.hierarchy.proofs.PlaceLemmas.{keys_rise}
use Rattle.hierarchy.proofs.filling.sheet_table.Goals as goal

pub add_objects-requires-clause-rising : goal.add_objects-requires-clause-rising
add_objects-requires-clause-rising c = rw (c.as_slice-2.ensures.value, c.in_ok-names.ensures.names) (keys_rise c.args.project.now.contents)

pub returns : goal.returns
returns c =
    let p = c.args.project.now.contents in
    let rows = ap (map row_now) c.as_slice-3.ensures.value ∙ c.in_ok-rows.ensures.objects in
    c.in_ok-add_objects.ensures ∙ ap (λ (rs : List (ℕ × Placed)). map (sheet_of p rs) (keys p.sheets)) rows
