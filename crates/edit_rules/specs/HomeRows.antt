-- The number of objects of each sheet (own).
use Rattle.std.specs.Prelude.{ℕ, List, Option, None, Some, IsSome, is_some, if◌then◌else◌}
use Rattle.std.specs.FinMap as finite
use Rattle.std.specs.Ordering.{nat_cmp}
use Rattle.std.specs.Cmp.Lexicographic.{slice_cmp}
use Rattle.project_model.specs.Items.{Item}
use Rattle.project_model.specs.declared.change.Thing.TheVariants as things
use Rattle.project_model.specs.declared.change.Value.TheVariants as values

-- numbers by name of sheet
abbrev pub SheetCounts : Type 0
SheetCounts = finite.FinMap (slice_cmp nat_cmp) ℕ

-- the rows, and how many more there may be without memory
pub record HomesView : Type 0 where
  pub rows : SheetCounts
  pub spare : ℕ

-- the number of a row, and 0 of none
abbrev pub home_count : Option ℕ → ℕ
home_count None = 0
home_count (Some n) = n

-- the rows after a sheet has one
abbrev pub with_sheet_row : SheetCounts → List ℕ → SheetCounts
with_sheet_row rows name =
    if is_some (finite.get rows name) then rows else finite.insert rows name 0

-- the sheet to which an object goes has a row
abbrev pub HasHome : SheetCounts → Item → Type 0
HasHome rows (things.Object id, Some (values.Object placed)) =
    IsSome (finite.get rows placed.sheet)
HasHome rows item = Unit {0}
