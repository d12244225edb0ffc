use Rattle.std.proofs.Common.{◌+◌, ◌-◌, ◌^◌, ◌≤◌, min, drop}
use Rattle.std.specs.List.{sum_by}
use Rattle.project_files.specs.Opening.{object_bytes}
use Rattle.project_files.proofs.project_text.bound_of_objects.Given as goal

abbrev pub invariant-loop-object : goal.invariant-loop-object
invariant-loop-object l = record {
  fits : l.bytes ≤ 2 ^ 64 - 1;
  rest : min (sum_by object_bytes l.objects) (2 ^ 64 - 1) ≤ min (l.bytes + sum_by object_bytes (drop l.object-index l.objects)) (2 ^ 64 - 1);
}
