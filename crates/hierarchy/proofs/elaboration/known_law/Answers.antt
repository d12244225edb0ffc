use Rattle.hierarchy.proofs.KnownLemmas.{instances_apart}
use Rattle.hierarchy.proofs.elaboration.known_law.Goals as goal

pub returns : goal.returns
returns c = λ p. instances_apart p
