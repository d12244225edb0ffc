use Rattle.hall_log.proofs.HistoryLemmas.{history_short}
use Rattle.hall_log.proofs.log.Prefix.len.Goals as goal

pub returns-clause-short : goal.returns-clause-short
returns-clause-short g c = rw (← c.self.view_is) (history_short c.self.inside.seen.log c.self.invariant.2)
