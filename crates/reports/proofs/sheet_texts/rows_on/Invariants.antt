use Rattle.std.proofs.Common.{◌≡◌, ◌++◌, drop, map}
use Rattle.std.specs.List.{filter}
use Rattle.project_model.specs.Tables.{row_now}
use Rattle.project_model.specs.Projects.{is_on}
use Rattle.reports.proofs.sheet_texts.rows_on.Given as goal

abbrev pub invariant-loop-row : goal.invariant-loop-row
invariant-loop-row l =
    map row_now l.found.items ++ filter (is_on l.name) (map row_now (drop l.row-index l.rows)) ≡ filter (is_on l.name) (map row_now l.rows)
