use Rattle.std.proofs.Common.{◌≡◌, ◌≤◌, ◌+◌, ◌*◌, ◌^◌, drop}
use Rattle.std.specs.Prelude.{count_by}
use Rattle.sym_check.specs.Report.{all_found, is_symbol_error}
use Rattle.sym_check.proofs.report.all_errors.Given as goal

abbrev pub invariant-loop-file : goal.invariant-loop-file
invariant-loop-file l = record {
  small : l.errors ≤ l.file-index * 2 ^ 64;
  rest : l.errors + count_by is_symbol_error (all_found (drop l.file-index l.files)) ≡ count_by is_symbol_error (all_found l.files);
}
