use Rattle.geda_grammar.proofs.ReadingLaws.{symbol_determined}
use Rattle.geda_grammar.proofs.laws.symbol_law.Goals as goal

pub returns : goal.returns
returns c = symbol_determined
