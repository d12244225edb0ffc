use Rattle.std.proofs.Common.{◌≡◌, ◌++◌, drop}
use Rattle.std.specs.List.{flat_map}
use Rattle.drc_findings.specs.Report.{finding_text}
use Rattle.drc_findings.proofs.report.put_findings.Given as goal

abbrev pub invariant-loop-finding : goal.invariant-loop-finding
invariant-loop-finding l = l.out.items ++ flat_map finding_text (drop l.finding-index l.findings) ≡ l.fn.out.items ++ flat_map finding_text l.findings
