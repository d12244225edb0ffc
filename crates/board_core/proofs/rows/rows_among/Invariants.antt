use Rattle.std.proofs.Common.{◌≡◌, ◌++◌, drop, filter, map}
use Rattle.project_model.specs.Tables.{row_now}
use Rattle.project_model.specs.Projects.{is_on}
use Rattle.board_core.proofs.rows.rows_among.Given as goal

abbrev pub invariant-loop-row : goal.invariant-loop-row
invariant-loop-row l = map row_now l.found.items ++ filter (is_on l.sheet) (map row_now (drop l.row-index l.rows))
    ≡ filter (is_on l.sheet) (map row_now l.rows)
