use Rattle.std.proofs.Common.{◌+◌, ◌-◌, ◌^◌, ◌≤◌, min, drop, map}
use Rattle.std.specs.List.{sum_by}
use Rattle.project_model.specs.Tables.{row_now}
use Rattle.table_files.specs.steps.Objects.{row_bytes}
use Rattle.table_files.proofs.objects.bytes_of_rows.Given as goal

abbrev pub invariant-loop-row : goal.invariant-loop-row
invariant-loop-row l = record {
  fits : l.bytes ≤ 2 ^ 64 - 1;
  rest : min (sum_by row_bytes (map row_now l.rows)) (2 ^ 64 - 1) ≤ min (l.bytes + sum_by row_bytes (map row_now (drop l.row-index l.rows))) (2 ^ 64 - 1);
}
