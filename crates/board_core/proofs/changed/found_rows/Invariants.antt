use Rattle.std.proofs.Common.{◌≡◌, ◌++◌, map}
use Rattle.project_model.specs.Tables.{row_now}
use Rattle.board_core.specs.steps.Standing.{found_rows}
use Rattle.board_core.proofs.changed.found_rows.Given as goal

abbrev pub invariant-loop-id : goal.invariant-loop-id
invariant-loop-id l = map row_now l.rows.items ++ found_rows l.project.contents l.id-iterator ≡ found_rows l.project.contents l.ids.keys
