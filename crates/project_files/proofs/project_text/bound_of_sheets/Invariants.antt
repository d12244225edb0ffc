use Rattle.std.proofs.Common.{◌+◌, ◌-◌, ◌^◌, ◌≤◌, min, drop}
use Rattle.std.specs.List.{sum_by}
use Rattle.project_files.specs.steps.Counting.{sheet_bytes}
use Rattle.project_files.proofs.project_text.bound_of_sheets.Given as goal

abbrev pub invariant-loop-sheet : goal.invariant-loop-sheet
invariant-loop-sheet l = record {
  fits : l.bytes ≤ 2 ^ 64 - 1;
  rest : min (sum_by sheet_bytes l.sheets) (2 ^ 64 - 1) ≤ min (l.bytes + sum_by sheet_bytes (drop l.sheet-index l.sheets)) (2 ^ 64 - 1);
}
