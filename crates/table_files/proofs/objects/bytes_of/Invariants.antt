use Rattle.std.proofs.Common.{◌+◌, ◌-◌, ◌^◌, ◌≤◌, min, drop}
use Rattle.std.specs.List.{sum_by}
use Rattle.desk_entries.specs.steps.RoomForEntries.{component_bytes}
use Rattle.table_files.proofs.objects.bytes_of.Given as goal

abbrev pub invariant-loop-component : goal.invariant-loop-component
invariant-loop-component l = record {
  fits : l.bytes ≤ 2 ^ 64 - 1;
  rest : min (sum_by component_bytes l.components) (2 ^ 64 - 1) ≤ min (l.bytes + sum_by component_bytes (drop l.component-index l.components)) (2 ^ 64 - 1);
}
