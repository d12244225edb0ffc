use Rattle.geda_geom.proofs.Or.{and_then}
use Rattle.geda_geom.proofs.touching.is_inside_flat.Goals as goal

pub returns-then-is_flat : goal.returns-then-is_flat
returns-then-is_flat c = and_then _ _ _ c.if-is_flat.ensures c.is_between_across.ensures
