use Rattle.geda_grammar.proofs.ReadingLaws.{sheet_determined}
use Rattle.geda_grammar.proofs.laws.sheet_law.Goals as goal

pub returns : goal.returns
returns c = sheet_determined
