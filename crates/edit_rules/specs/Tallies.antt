-- How many objects, sheets and symbols a project has, how much text, and how many objects each of
-- its sheets has (own).
use Rattle.std.specs.Prelude.{◌≡◌, ℕ, ◌≤◌, List, IsSome}
use Rattle.std.specs.FinMap as finite
use Rattle.project_model.specs.Projects.{ProjectData}
use Rattle.edit_rules.specs.LateLines.{placed_bytes, project_text, symbol_bytes}
use Rattle.edit_rules.specs.Weights.{Weights, in_sheet, weigh}
use Rattle.edit_rules.specs.HomeRows.{SheetCounts, home_count}
use Rattle.edit_rules.specs.declared.weighing.Which.{Which}
use Rattle.edit_rules.specs.declared.weighing.Which.TheVariants as which

-- what each value counts
abbrev pub weights_of : Which → Weights
weights_of which.Objects =
    record { object = λ placed. 1; head = λ head. 0; symbol = λ symbol. 0 }
weights_of which.Sheets =
    record { object = λ placed. 0; head = λ head. 1; symbol = λ symbol. 0 }
weights_of which.Symbols =
    record { object = λ placed. 0; head = λ head. 0; symbol = λ symbol. 1 }
weights_of which.Text =
    record { object = placed_bytes; head = λ head. 0; symbol = symbol_bytes }

-- the numbers that the limits are about
abbrev pub limited_number : Which → ProjectData → ℕ
limited_number which.Objects p = finite.len p.objects
limited_number which.Sheets p = finite.len p.sheets
limited_number which.Symbols p = finite.len p.symbols
limited_number which.Text p = project_text p

-- the numbers, and the objects of each sheet
pub record TallyData : Type 0 where
  pub objects : ℕ
  pub sheets : ℕ
  pub symbols : ℕ
  pub text : ℕ
  pub homes : SheetCounts

-- the same, and for how many more sheets there is room
pub record TallyView : Type 0 where
  pub rows : TallyData
  pub spare : ℕ

-- one of the numbers
abbrev pub have : TallyData → Which → ℕ
have t which.Objects = t.objects
have t which.Sheets = t.sheets
have t which.Symbols = t.symbols
have t which.Text = t.text

-- the numbers of the empty project
abbrev pub no_tally : TallyData
no_tally = record { objects = 0; sheets = 0; symbols = 0; text = 0; homes = finite.empty }

-- the numbers are those of the project, which keeps to its limits, and each of its sheets has a row
pub record IsTallied (p : ProjectData) (t : TallyData) : Type 0 where
  pub numbers : (w : Which) → have t w ≡ weigh (weights_of w) p
  pub homes : (name : List ℕ) →
      home_count (finite.get t.homes name) ≡ weigh (in_sheet name) p
  pub known : (name : List ℕ) → IsSome (finite.get p.sheets name) →
      IsSome (finite.get t.homes name)
  pub low : (w : Which) → weigh (weights_of w) p ≤ 67108864
