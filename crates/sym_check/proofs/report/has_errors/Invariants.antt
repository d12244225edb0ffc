use Rattle.std.proofs.Common.{◌≡◌, drop}
use Rattle.std.specs.List.{list_any}
use Rattle.sym_check.specs.Report.{all_found, is_symbol_error}
use Rattle.sym_check.proofs.report.has_errors.Given as goal

abbrev pub invariant-loop-file : goal.invariant-loop-file
invariant-loop-file l = list_any is_symbol_error (all_found (drop l.file-index l.files)) ≡ list_any is_symbol_error (all_found l.files)
