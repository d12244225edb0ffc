use Rattle.spice_out.proofs.ExactLemmas.{exact}
use Rattle.spice_out.proofs.laws.pin_sets_are_exact.Goals as goal

pub returns : goal.returns
returns c = λ n pins few. exact n few pins
