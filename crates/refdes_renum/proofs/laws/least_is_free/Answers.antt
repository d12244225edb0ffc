use Rattle.refdes_renum.proofs.LeastLemmas.{least_is_free}
use Rattle.refdes_renum.proofs.laws.least_is_free.Goals as goal

pub returns : goal.returns
returns c = least_is_free
