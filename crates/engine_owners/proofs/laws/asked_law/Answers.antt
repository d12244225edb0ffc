use Rattle.engine_owners.proofs.PairLemmas.{asked_seen}
use Rattle.engine_owners.proofs.laws.asked_law.Goals as goal

pub returns : goal.returns
returns c = asked_seen
