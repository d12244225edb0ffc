-- The conductors of an object that a list lends with its id.
use Rattle.std.specs.Prelude.{ℕ}
use Rattle.std.specs.Borrow.{Bor}
use Rattle.project_model.specs.declared.change.Placed.{Placed}
use Rattle.conductor_counts.specs.Conductors.{Symbols, body_conductors}

-- those of the object
abbrev pub row_conductors : Symbols → ℕ × Bor Placed → ℕ
row_conductors symbols row = body_conductors symbols row.1.now.object.body
