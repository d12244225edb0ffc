use Rattle.std.proofs.Common.{◌≡◌, ◌++◌, drop, map}
use Rattle.project_model.specs.Tables.{row_now}
use Rattle.board_core.specs.steps.Standing.{given_rows}
use Rattle.board_core.proofs.rows.given_rows.Given as goal

abbrev pub invariant-loop-item : goal.invariant-loop-item
invariant-loop-item l = map row_now l.rows.items ++ given_rows (drop l.item-index l.items) ≡ given_rows l.items
