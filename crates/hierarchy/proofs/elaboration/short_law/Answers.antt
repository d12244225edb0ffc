use Rattle.hierarchy.specs.SheetTable.{sheet_table}
use Rattle.hierarchy.proofs.TableLemmas.{table_inside}
use Rattle.hierarchy.proofs.WayLemmas.{way_short}
use Rattle.hierarchy.proofs.elaboration.short_law.Goals as goal

pub returns : goal.returns
returns c = λ p. way_short (sheet_table p) (table_inside p)
