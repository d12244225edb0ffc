use Rattle.std.proofs.Common.{append_assoc, rules}
use Rattle.sym_check.proofs.report.put_finding.Goals as goal

pub returns : goal.returns
returns c = search (rules, append_assoc)
