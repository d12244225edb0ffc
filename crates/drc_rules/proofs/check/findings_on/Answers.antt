use Rattle.drc_findings.proofs.OrderLemmas.{order_rises}
use Rattle.drc_rules.proofs.check.findings_on.Goals as goal

pub returns-clause-rising : goal.returns-clause-rising
returns-clause-rising c = rw c.in_ok-list.ensures (order_rises c.add_lost.new.found.items)
