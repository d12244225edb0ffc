use Rattle.std.proofs.Common.{◌≡◌, ◌++◌, drop}
use Rattle.std.specs.List.{flat_map}
use Rattle.sym_check.specs.Report.{symbol_finding_text}
use Rattle.sym_check.proofs.report.put_findings.Given as goal

abbrev pub invariant-loop-finding : goal.invariant-loop-finding
invariant-loop-finding l = l.out.items ++ flat_map symbol_finding_text (drop l.finding-index l.findings) ≡ l.fn.out.items ++ flat_map symbol_finding_text l.findings
