use Rattle.std.proofs.Common.{◌≡◌, ◌++◌, drop}
use Rattle.std.specs.List.{flat_map}
use Rattle.sym_check.specs.Report.{file_text}
use Rattle.sym_check.proofs.report.put_files.Given as goal

abbrev pub invariant-loop-file : goal.invariant-loop-file
invariant-loop-file l = l.out.items ++ flat_map file_text (drop l.file-index l.files) ≡ l.fn.out.items ++ flat_map file_text l.files
