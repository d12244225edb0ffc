use Rattle.hierarchy.specs.SheetTable.{sheet_table}
use Rattle.hierarchy.proofs.OnceLemmas.{ways_once}
use Rattle.hierarchy.proofs.SourceLemmas.{table_once}
use Rattle.hierarchy.proofs.elaboration.once_law.Goals as goal

pub returns : goal.returns
returns c = λ p. ways_once (sheet_table p) (table_once p)
