-- Tables: finite maps whose rows are put in and taken out, with room for more.
use Rattle.std.specs.Prelude.{ℕ, Option, None, Some, refl}
use Rattle.std.specs.Coded.{Coded, code_by, coded×, coded_ℕ}
use Rattle.std.specs.Borrow.{Bor}
use Rattle.std.specs.FinMap as map
use Rattle.std.specs.declared.cmp.Ordering.{Ordering}

-- the rows of a table, and how many more it takes without memory
pub record TableData (K : Type 0) (R : K → K → Ordering) (V : Type 0) : Type 0 where
  pub rows : map.FinMap R V
  pub spare : ℕ

-- the code of a table, from those of its keys and of its rows
abbrev pub table_code : {K V : Type 0} {R : K → K → Ordering}
    → Coded K → Coded V → Coded (TableData K R V)
table_code keys rows =
    code_by _ (coded× (map.code keys rows) coded_ℕ)
    (λ t. (t.rows, t.spare)) (λ p. record { rows = p.0; spare = p.1 }) (λ _. refl)

-- the rows after a key gets a row, or none
abbrev pub set_row : {K V : Type 0} {R : K → K → Ordering}
    → map.FinMap R V → K → Option V → map.FinMap R V
set_row rows key None = map.remove rows key
set_row rows key (Some row) = map.insert rows key row

-- a row with its key, where a list of rows lends its rows
abbrev pub row_now : {V : Type 0} → ℕ × Bor V → ℕ × V
row_now row = (row.0, row.1.now)
