use Rattle.drc_findings.proofs.OrderLemmas.{order_keeps}
use Rattle.drc_findings.proofs.found.order_law.Goals as goal

pub returns : goal.returns
returns c = order_keeps
