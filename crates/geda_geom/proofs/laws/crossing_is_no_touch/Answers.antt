use Rattle.geda_geom.proofs.TouchLemmas.{crossing_apart}
use Rattle.geda_geom.proofs.laws.crossing_is_no_touch.Goals as goal

pub returns : goal.returns
returns c = crossing_apart
