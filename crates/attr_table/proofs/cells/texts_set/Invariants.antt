use Rattle.std.proofs.Common.{◌≡◌, drop, true}
use Rattle.std.specs.List.{list_all}
use Rattle.edit_attr.specs.FirstPoints.{first_point}
use Rattle.attr_table.specs.Cells.{can_be_set}
use Rattle.attr_table.specs.steps.Places.{ArePlaces, texts_set}
use Rattle.attr_table.proofs.cells.texts_set.Given as goal

abbrev pub invariant-loop-cell : goal.invariant-loop-cell
invariant-loop-cell l =
    (texts_set l.at l.texts.items (drop l.cell-index l.cells) ≡ texts_set (first_point l.object.body) l.object.attrs l.cells)
    × ArePlaces l.texts.items l.firsts
    × (list_all can_be_set (drop l.cell-index l.cells) ≡ true)
