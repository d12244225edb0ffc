use Rattle.std.proofs.Common.{◌≡◌, take}
use Rattle.std.specs.List.{sum_by}
use Rattle.conductor_counts.specs.steps.Rows.{row_conductors}
use Rattle.conductor_counts.proofs.projects.row_conductors.Given as goal

abbrev pub invariant-loop-row : goal.invariant-loop-row
invariant-loop-row l =
    (l.sum ≡ sum_by (row_conductors l.fn.tables.symbols) (take l.row-index l.rows)) × (l.tables ≡ l.fn.tables)
