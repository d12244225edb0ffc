use Rattle.refdes_renum.proofs.LawLemmas.{replaced}
use Rattle.refdes_renum.proofs.laws.renumbered_replaced.Goals as goal

pub returns : goal.returns
returns c = replaced
