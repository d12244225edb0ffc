use Rattle.std.proofs.Common.{◌≡◌, ◌+◌, ◌-◌, ◌^◌, ◌≤◌, min, drop}
use Rattle.std.specs.List.{sum_by}
use Rattle.project_files.specs.steps.Bounds.{attached_most, text_most}
use Rattle.project_files.proofs.bounds.attached_bound.Given as goal

abbrev pub invariant-loop-text : goal.invariant-loop-text
invariant-loop-text l = record {
  fits : l.bytes ≤ 2 ^ 64 - 1;
  rest : min (l.bytes + sum_by text_most (drop l.text-index l.texts)) (2 ^ 64 - 1) ≡ min (attached_most l.texts) (2 ^ 64 - 1);
}
