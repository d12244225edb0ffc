use Rattle.geda_grammar.proofs.ReadingLaws.{sheet_alone, symbol_alone, object_alone}
use Rattle.geda_grammar.proofs.WritingLaws.{sheet_again, symbol_again, object_again}
use Rattle.geda_grammar.proofs.laws.writing_law.Goals as goal

pub returns-clause-sheets : goal.returns-clause-sheets
returns-clause-sheets c = λ v w. sheet_alone _ v (sheet_again v w)

pub returns-clause-symbols : goal.returns-clause-symbols
returns-clause-symbols c = λ v w. symbol_alone _ v (symbol_again v w)

pub returns-clause-objects : goal.returns-clause-objects
returns-clause-objects c = λ v w. object_alone _ v (object_again v w)
