use Rattle.geda_grammar.proofs.ReadingLaws.{object_determined}
use Rattle.geda_grammar.proofs.laws.object_law.Goals as goal

pub returns : goal.returns
returns c = object_determined
