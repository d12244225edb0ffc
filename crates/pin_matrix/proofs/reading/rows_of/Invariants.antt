use Rattle.std.proofs.Common.{◌≡◌, ◌+◌, ◌++◌, drop, option_map}
use Rattle.toml.specs.View.{items_view}
use Rattle.pin_matrix.specs.MatrixFiles.{rows_from}
use Rattle.pin_matrix.proofs.reading.rows_of.Given as goal

abbrev pub invariant-loop-row : goal.invariant-loop-row
invariant-loop-row l = (l.want ≡ l.row-index + 1) × (option_map (λ more. l.levels.items ++ more) (rows_from l.want (items_view (drop l.row-index l.rows))) ≡ rows_from 1 (items_view l.rows))
