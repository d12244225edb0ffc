use Rattle.std.proofs.Common.{◌≡◌, map, take}
use Rattle.project_model.specs.Tables.{row_now}
use Rattle.hierarchy.specs.steps.SheetRows.{AreLight, IsTableOf}
use Rattle.hierarchy.proofs.filling.add_objects.Given as goal

abbrev pub invariant-loop-row : goal.invariant-loop-row
invariant-loop-row l = IsTableOf l.project.contents (map row_now (take l.row-index l.rows)) l.table.items × AreLight l.row-index l.table.items × (l.met ≡ l.project.contents)
