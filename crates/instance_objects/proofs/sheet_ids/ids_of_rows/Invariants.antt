use Rattle.std.proofs.Common.{◌≡◌, ◌++◌, ◌-◌, ◌≤◌, ℕ, List, drop, length, map}
use Rattle.project_model.specs.Tables.{row_now}
use Rattle.instance_objects.specs.SheetIds.{ids_at}
use Rattle.instance_objects.specs.steps.SheetIds.{ids_in}
use Rattle.instance_objects.proofs.sheet_ids.ids_of_rows.Given as goal

abbrev pub decreases-loop-place : goal.decreases-loop-place
decreases-loop-place l = length l.rows - l.place

abbrev pub invariant-loop-place : goal.invariant-loop-place
invariant-loop-place l = record {
  within : l.place ≤ length l.rows;
  ids : (name : List ℕ)
      → ids_at l.table name ++ ids_in (map row_now (drop l.place l.rows)) name ≡ ids_in (map row_now l.rows) name;
}
