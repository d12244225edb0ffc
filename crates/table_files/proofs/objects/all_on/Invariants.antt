use Rattle.std.proofs.Common.{◌≡◌, drop, map}
use Rattle.project_model.specs.Tables.{row_now}
use Rattle.table_files.specs.steps.Objects.{all_on}
use Rattle.table_files.proofs.objects.all_on.Given as goal

abbrev pub invariant-loop-row : goal.invariant-loop-row
invariant-loop-row l = all_on l.sheet (map row_now (drop l.row-index l.rows)) ≡ all_on l.sheet (map row_now l.rows)
