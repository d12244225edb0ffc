-- A board: a project, and what is known of the groups that it keeps (own).
use Rattle.std.specs.Prelude.{◌≤◌, ◌+◌, ◌-◌, ◌^◌, ◌⊎◌, ℕ, List, Contains, min}
use Rattle.project_model.specs.Items.{Item}
use Rattle.project_model.specs.Projects.{ProjectData}
use Rattle.board_core.specs.Bounds.{IsBound}
use Rattle.board_core.specs.Changed.{TouchesSheet}

-- the project, the sheets whose groups are given up for want of memory, the steps that groups took
-- since the board was made, and the sum of those that its present groups have counted
pub record BoardData : Type 0 where
  pub project : ProjectData
  pub invalidated : List (List ℕ)
  pub asked : ℕ
  pub counted : ℕ

-- what the present groups have counted is among the steps, as far as these go: to 2^64 - 1
abbrev pub IsCounted : BoardData → Type 0
IsCounted board = min board.counted (2 ^ 64 - 1) ≤ board.asked

-- a change touches no sheet whose groups are given up
abbrev pub AreKept : BoardData → List Item → Type 0
AreKept board items =
    (sheet : List ℕ) → TouchesSheet board.project items sheet → ¬ (Contains board.invalidated sheet)

-- after a change that was put in, no sheet that it touches is given up, and no other one became so
abbrev pub RenewsGroups : BoardData → List Item → BoardData → Type 0
RenewsGroups old items new = (sheet : List ℕ) → Contains new.invalidated sheet
    → Contains old.invalidated sheet × ¬ (TouchesSheet old.project items sheet)

-- after a change that was not put in, what is given up was so, or the change touches it
abbrev pub MayGiveUp : BoardData → List Item → BoardData → Type 0
MayGiveUp old items new = (sheet : List ℕ) → Contains new.invalidated sheet
    → Contains old.invalidated sheet ⊎ TouchesSheet old.project items sheet

-- the steps of a change that touches no sheet that is given up are within its bound
abbrev pub StaysInBound : BoardData → List Item → BoardData → Type 0
StaysInBound old items new = AreKept old items
    → (bound : ℕ) → IsBound old.project items bound → new.asked ≤ old.asked + bound
