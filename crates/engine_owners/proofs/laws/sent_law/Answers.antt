use Rattle.engine_owners.proofs.PairLemmas.{sent_seen}
use Rattle.engine_owners.proofs.laws.sent_law.Goals as goal

pub returns : goal.returns
returns c = sent_seen
