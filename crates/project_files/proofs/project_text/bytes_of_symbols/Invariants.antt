use Rattle.std.proofs.Common.{◌≡◌, ◌+◌, ◌-◌, ◌^◌, ◌≤◌, min, drop}
use Rattle.std.specs.List.{sum_by}
use Rattle.project_files.specs.steps.Counting.{asked_bytes}
use Rattle.project_files.proofs.project_text.bytes_of_symbols.Given as goal

abbrev pub invariant-loop-name : goal.invariant-loop-name
invariant-loop-name l = record {
  fits : l.bytes ≤ 2 ^ 64 - 1;
  rest : min (l.bytes + sum_by asked_bytes (drop l._name-index l.symbols)) (2 ^ 64 - 1) ≡ min (sum_by asked_bytes l.symbols) (2 ^ 64 - 1);
}
