-- What a change does to a board that is published, and what a look at it is answered (own).
use Rattle.std.specs.Prelude.{◌≡◌, ◌==◌, ◌<◌, ◌≤◌, ℕ, List, length, cond, Option, None, Some}
use Rattle.edit_entries.specs.Entries.{EntryData}
use Rattle.edit_rules.specs.Histories.{project}
use Rattle.board_core.specs.Boards.{BoardData}

-- the entries before a change, and those with the entry of the change
pub record StepData : Type 0 where
  pub before : List EntryData
  pub after : List EntryData

-- the entry comes in where the list is as long as the one that it is to follow
abbrev pub applied_to : List EntryData → StepData → List EntryData
applied_to list op = cond (length list == length op.before) op.after list

-- this was answered on a board of these entries' project
pub record IsAnswered (h : List EntryData) (answered : BoardData → Type 0) : Type 0 where
  pub board : BoardData
  pub shows : board.project ≡ project h
  pub answer : answered board

-- the same, where there are so many entries; else there is no answer
abbrev pub IsAnsweredFrom : {A : Type 0} → ℕ → List EntryData → (A → BoardData → Type 0)
    → Option A → Type 0
IsAnsweredFrom least h answered None = length h < least
IsAnsweredFrom least h answered (Some answer) =
    (least ≤ length h) × IsAnswered h (answered answer)

-- this was answered on what shows these entries
pub record IsShown {S : Type 0} (list : S → List EntryData) (h : List EntryData)
    (answered : S → Type 0) : Type 0 where
  pub shown : S
  pub shows : list shown ≡ h
  pub answer : answered shown

-- the same, where there are so many entries; else there is no answer
abbrev pub IsShownFrom : {S A : Type 0} → (S → List EntryData) → ℕ → List EntryData
    → (A → S → Type 0) → Option A → Type 0
IsShownFrom list least h answered None = length h < least
IsShownFrom list least h answered (Some answer) =
    (least ≤ length h) × IsShown list h (answered answer)
