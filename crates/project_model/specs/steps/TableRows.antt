-- The rows of the tables of a project, in order.
use Rattle.std.specs.Prelude.{ℕ, List, filter}
use Rattle.std.specs.FinMap as finite
use Rattle.std.specs.Map.{keys_of}
use Rattle.std.specs.Ordering.{nat_cmp}
use Rattle.std.specs.Cmp.Lexicographic.{slice_cmp}
use Rattle.project_model.specs.declared.change.Placed.{Placed}
use Rattle.project_model.specs.Projects.{is_on}

-- the ids of a sheet's objects, in the order of the rows
abbrev pub ids_in_rows : List ℕ → List (ℕ × Placed) → List ℕ
ids_in_rows name rows = keys_of (filter (is_on name) rows)

-- rows by id
abbrev pub rows_by_id : {V : Type 0} → List (ℕ × V) → finite.FinMap nat_cmp V
rows_by_id rows = finite.from_entries rows

-- rows by name
abbrev pub rows_by_name : {V : Type 0} → List (List ℕ × V) → finite.FinMap (slice_cmp nat_cmp) V
rows_by_name rows = finite.from_entries rows

-- the ids of a sheet's objects, rising
abbrev pub ids_in_order : List ℕ → List (ℕ × Placed) → List ℕ
ids_in_order name rows = ids_in_rows name (finite.entries (rows_by_id rows))
