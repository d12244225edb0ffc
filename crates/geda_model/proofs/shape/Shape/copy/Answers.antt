use Rattle.geda_model.proofs.CloneLemmas.{copied}
use Rattle.geda_model.proofs.shape.Shape.copy.Goals as goal

pub returns : goal.returns
returns c = copied _ _ _ c.clone.ensures.cases
