use Rattle.std.proofs.Common.{◌≡◌, ◌+◌, ◌-◌, ◌^◌, ◌≤◌, min, drop}
use Rattle.std.specs.List.{sum_by}
use Rattle.project_files.specs.steps.Counting.{object_count}
use Rattle.project_files.proofs.project_text.object_count.Given as goal

abbrev pub invariant-loop-sheet : goal.invariant-loop-sheet
invariant-loop-sheet l = record {
  fits : l.count ≤ 2 ^ 64 - 1;
  rest : min (l.count + sum_by object_count (drop l.sheet-index l.sheets)) (2 ^ 64 - 1) ≡ min (sum_by object_count l.sheets) (2 ^ 64 - 1);
}
