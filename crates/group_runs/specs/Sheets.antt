-- The groups of several sheets: which are kept, and which were given up (own).
use Rattle.std.specs.Prelude.{◌≡◌, ◌≢◌, ◌⊎◌, ◌≤◌, ◌-◌, ◌^◌, ⊤, ℕ, Bool, true, false, filter, Option, None, Some, List, [], ◌∷◌, min}
use Rattle.std.specs.FinMap.{empty}
use Rattle.std.specs.List.{sum_by}
use Rattle.std.specs.Map.{keys_of, lookup, values_of}
use Rattle.std.specs.Str.{bytes_eq}
use Rattle.net_flood.specs.Grouping.{Conductors, GroupsData}
use Rattle.group_runs.specs.Runs.{BySheet, Coming, Leaving, SheetName, sheets_in, sheets_of}

-- the groups of each sheet that has any entry; none where they are given up
abbrev pub Rows : Type 0
Rows = List (SheetName × Option GroupsData)

abbrev pub row_at : Rows → SheetName → Option (Option GroupsData)
row_at rows sheet = lookup (λ s. bytes_eq sheet s) rows

-- the conductors of groups that are kept
abbrev pub kept_of : Option GroupsData → Conductors
kept_of (Some g) = g.conductors
kept_of None = empty

abbrev pub conductors_of : Option (Option GroupsData) → Conductors
conductors_of (Some row) = kept_of row
conductors_of None = empty

-- the conductors of each sheet whose groups are kept
abbrev pub kept_at : Rows → BySheet
kept_at rows = λ s. conductors_of (row_at rows s)

-- the groups are kept
abbrev pub HasGroups : Option GroupsData → Type 0
HasGroups (Some g) = g.fresh ≡ true
HasGroups None = ⊥

abbrev pub IsKept : Option (Option GroupsData) → Type 0
IsKept (Some row) = HasGroups row
IsKept None = ⊥

-- the groups of each of these sheets are kept
abbrev pub AreKept : Rows → List SheetName → Type 0
AreKept rows [] = ⊤
AreKept rows (s ∷ ss) = IsKept (row_at rows s) × AreKept rows ss

-- a sheet is none of these
abbrev pub IsApart : SheetName → List SheetName → Type 0
IsApart s [] = ⊤
IsApart s (t ∷ ts) = (s ≢ t) × IsApart s ts

-- each other sheet has what it had
abbrev pub KeepsOthers : List SheetName → Rows → Rows → Type 0
KeepsOthers sheets old new = (s : SheetName) → IsApart s sheets → row_at new s ≡ row_at old s

-- each sheet but one has the entry that it had
abbrev pub KeepsOtherSheets : SheetName → Rows → Rows → Type 0
KeepsOtherSheets sheet old new = (s : SheetName) → s ≢ sheet → row_at new s ≡ row_at old s

-- where groups are kept, they are kept afterwards
abbrev pub KeepsGroups : Rows → Rows → Type 0
KeepsGroups old new = (s : SheetName) → IsKept (row_at old s) → IsKept (row_at new s)

-- a sheet is one of these
abbrev pub IsAmong : SheetName → List SheetName → Type 0
IsAmong s [] = ⊥
IsAmong s (t ∷ ts) = (s ≡ t) ⊎ IsAmong s ts

-- no groups are there
abbrev pub IsGone : Option (Option GroupsData) → Type 0
IsGone None = ⊤
IsGone (Some None) = ⊤
IsGone (Some (Some g)) = ⊥

-- each sheet that nobody touched has what it had
abbrev pub KeepsUntouched : List Leaving → List Coming → Rows → Rows → Type 0
KeepsUntouched leaving coming old new = (s : SheetName) → IsApart s (sheets_of leaving)
    → IsApart s (sheets_in coming) → row_at new s ≡ row_at old s

-- the sheet has an entry: its groups are kept, or were given up
abbrev pub HasEntry : Option (Option GroupsData) → Type 0
HasEntry None = ⊥
HasEntry (Some row) = ⊤

-- each sheet that has an entry has one afterwards
abbrev pub KeepsEntries : Rows → Rows → Type 0
KeepsEntries old new = (s : SheetName) → HasEntry (row_at old s) → HasEntry (row_at new s)

-- the groups were given up
abbrev pub is_given_up : Option (Option GroupsData) → Bool
is_given_up (Some None) = true
is_given_up other = false

-- the sheets whose groups were given up, in no order
abbrev pub given_up : Rows → List SheetName
given_up rows = filter (λ s. is_given_up (row_at rows s)) (keys_of rows)

-- the groups of each of these sheets are given up
abbrev pub AreGone : List SheetName → Rows → Type 0
AreGone sheets rows = (s : SheetName) → IsAmong s sheets → IsGone (row_at rows s)

-- sheets with their groups, and the steps that these took
pub record SheetsData : Type 0 where
  pub rows : Rows
  pub steps : ℕ

-- how often the groups that are there have asked
abbrev pub asked_of : Option GroupsData → ℕ
asked_of None = 0
asked_of (Some g) = g.asked

abbrev pub asked_sum : Rows → ℕ
asked_sum rows = sum_by asked_of (values_of rows)

-- the steps are at least the sum of the counts, as far as they can tell
abbrev pub IsCounted : ℕ → ℕ → Type 0
IsCounted sum steps = min sum (2 ^ 64 - 1) ≤ steps

-- groups that are there are fresh
abbrev pub IsSoundRow : Option GroupsData → Type 0
IsSoundRow None = ⊤
IsSoundRow (Some g) = g.fresh ≡ true

abbrev pub IsSound : Option (Option GroupsData) → Type 0
IsSound None = ⊤
IsSound (Some row) = IsSoundRow row

-- groups that are there are fresh, and the steps count their queries
pub record IsHeld (rows : Rows) (steps : ℕ) : Type 0 where
  pub sound : (s : SheetName) → IsSound (row_at rows s)
  pub counted : IsCounted (asked_sum rows) steps
