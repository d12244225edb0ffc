use Rattle.hierarchy.specs.SheetTable.{sheet_table}
use Rattle.hierarchy.proofs.TableLemmas.{table_inside}
use Rattle.hierarchy.proofs.WayLemmas.{ways_are}
use Rattle.hierarchy.proofs.elaboration.ways_law.Goals as goal

pub returns : goal.returns
returns c = λ p. ways_are (sheet_table p) (table_inside p)
