use Rattle.std.proofs.Common.{◌≡◌, ◌++◌, drop, map}
use Rattle.project_model.specs.Tables.{row_now}
use Rattle.table_files.specs.steps.Objects.{object_of, objects_now}
use Rattle.table_files.proofs.objects.objects_of.Given as goal

abbrev pub invariant-loop-row : goal.invariant-loop-row
invariant-loop-row l =
    objects_now l.objects.items ++ map object_of (map row_now (drop l.row-index l.rows)) ≡ map object_of (map row_now l.rows)
