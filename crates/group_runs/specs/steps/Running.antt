-- Steps of the code; no public clause cites them.
-- Conductors leave, and come, one after the other (own).
use Rattle.std.specs.Prelude.{◌≡◌, ◌⊎◌, ◌≤◌, ◌+◌, ◌-◌, ◌^◌, ℕ, Option, None, Some, List, length, min}
use Rattle.net_flood.specs.Grouping.{Conductors, GroupsData}
use Rattle.group_runs.specs.Runs.{AreFree, AreThere, BySheet, Coming, Leaving, SheetName, SizesSum, sheets_in, sheets_of, with_all, without}
use Rattle.group_runs.specs.Sheets.{AreKept, IsAmong, IsApart, IsCounted, IsGone, IsKept, KeepsEntries, Rows, asked_sum, kept_at, row_at}

-- the groups of a sheet are given up, if it has any entry
abbrev pub invalidated : Option (Option GroupsData) → Option (Option GroupsData)
invalidated None = None
invalidated (Some row) = Some None

-- the groups that are kept are those of these conductors
abbrev pub IsOf : BySheet → Rows → Type 0
IsOf at rows = (s : SheetName) → IsKept (row_at rows s) → kept_at rows s ≡ at s

-- one sheet has other conductors, and its groups are kept
pub record SetsSheet (sheet : SheetName) (cs : Conductors) (new : Rows) : Type 0 where
  pub kept : IsKept (row_at new sheet)
  pub are : kept_at new sheet ≡ cs

-- what is yet owed of a sum: the sum of those that are left, with what was taken already
pub record Owes (now : Rows) (steps_before steps_now : ℕ) (left : List Leaving) (sum : ℕ)
    : Type 0 where
  pub rest : ℕ
  pub sizes : SizesSum (kept_at now) left rest
  pub few : steps_now + rest ≤ steps_before + sum

-- some conductors have left, and some are left
pub record IsRemoving (before now : Rows) (steps_before steps_now : ℕ) (all left : List Leaving)
    : Type 0 where
  pub left_kept : AreKept now (sheets_of left)
  pub there : AreThere (kept_at now) left
  pub same : without (kept_at now) left ≡ without (kept_at before) all
  pub kept : (s : SheetName) → IsKept (row_at before s) → IsKept (row_at now s)
  pub others : (s : SheetName) → IsApart s (sheets_of all)
      → (row_at now s ≡ row_at before s) × IsApart s (sheets_of left)
  pub entries : KeepsEntries before now
  pub owes : (sum : ℕ) → SizesSum (kept_at before) all sum
      → Owes now steps_before steps_now left sum
  pub later : steps_before ≤ steps_now
  pub counted : IsCounted (asked_sum before) steps_before → IsCounted (asked_sum now) steps_now

-- what the groups of conductors that left had, as a part of the sum of all
pub record Sums (before now : Rows) (all left : List Leaving) (sum : ℕ) : Type 0 where
  pub done : ℕ
  pub sums : (rest : ℕ) → SizesSum (kept_at now) left rest
      → SizesSum (kept_at before) all (done + rest)
  pub count : sum ≡ min done (2 ^ 64 - 1)

-- some conductors have left, with the sum of the sizes that their groups had
pub record IsSumming (before now : Rows) (steps_before steps_now : ℕ) (all left : List Leaving)
    (sum : ℕ) : Type 0 where
  pub removing : IsRemoving before now steps_before steps_now all left
  pub sums : Sums before now all left sum

-- some conductors have come, and some are left
pub record IsInserting (before now : Rows) (steps_before steps_now : ℕ) (all left : List Coming)
    : Type 0 where
  pub left_kept : AreKept now (sheets_in left)
  pub free : AreFree (kept_at now) left
  pub same : with_all (kept_at now) left ≡ with_all (kept_at before) all
  pub kept : (s : SheetName) → IsKept (row_at before s) → IsKept (row_at now s)
  pub others : (s : SheetName) → IsApart s (sheets_in all)
      → (row_at now s ≡ row_at before s) × IsApart s (sheets_in left)
  pub entries : KeepsEntries before now
  pub few : steps_now + length left ≤ steps_before + length all
  pub later : steps_before ≤ steps_now
  pub counted : IsCounted (asked_sum before) steps_before → IsCounted (asked_sum now) steps_now

-- the groups of some sheets are given up, and those of some are yet to be
pub record IsGivingUp (before now : Rows) (all left : List SheetName) : Type 0 where
  pub gone : (s : SheetName) → IsAmong s all → IsGone (row_at now s) ⊎ IsAmong s left
  pub others : (s : SheetName) → IsApart s all → (row_at now s ≡ row_at before s) × IsApart s left
  pub stays : (s : SheetName) → IsGone (row_at before s) → IsGone (row_at now s)
  pub entries : KeepsEntries before now
  pub counted : asked_sum now ≤ asked_sum before
