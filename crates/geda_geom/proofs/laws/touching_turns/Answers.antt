use Rattle.geda_geom.proofs.TouchLemmas.{touch_turn}
use Rattle.geda_geom.proofs.laws.touching_turns.Goals as goal

pub returns : goal.returns
returns c = touch_turn
