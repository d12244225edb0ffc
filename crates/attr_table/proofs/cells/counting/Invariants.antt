use Rattle.std.proofs.Common.{◌≡◌, ◌+◌, ◌++◌, filter}
use Rattle.csv.specs.Records.{fields_of}
use Rattle.attr_table.specs.Cells.{cells_of, cell_counts, is_bad_cell}
use Rattle.attr_table.specs.TableFaults.{first_column, second_column}
use Rattle.attr_table.specs.steps.LentTexts.{texts}
use Rattle.attr_table.proofs.CountingLemmas.{cells_from}
use Rattle.attr_table.proofs.cells.counting.Given as goal

abbrev pub invariant-loop-place : goal.invariant-loop-place
invariant-loop-place l =
    (l.counting.items ++ filter (cell_counts l.object) (cells_from l.place (texts l.names) (fields_of l.source)) ≡ filter (cell_counts l.object) (cells_of (texts l.names) (fields_of l.source)))
    × (first_column (is_bad_cell l.object) (l.place + 2) (cells_from l.place (texts l.names) (fields_of l.source))
    ≡ first_column (is_bad_cell l.object) second_column (cells_of (texts l.names) (fields_of l.source)))
