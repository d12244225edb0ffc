use Rattle.geda_geom.proofs.Or.{and_then}
use Rattle.geda_geom.proofs.touching.is_inside_upright.Goals as goal

pub returns-then-is_upright : goal.returns-then-is_upright
returns-then-is_upright c = and_then _ _ _ c.if-is_upright.ensures c.is_between_up.ensures
