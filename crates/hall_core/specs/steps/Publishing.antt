-- The history, and what is listed, published and pending of it, as the pen holds them (own).
use Rattle.std.specs.Prelude.{◌≡◌, ◌⊎◌, ◌≤◌, ◌+◌, List, [], length, fold, Option, None, Some}
use mathlib.Core.List.{IsPrefix}
use Rattle.project_model.specs.Projects.{Spare}
use Rattle.project_model.specs.declared.change.Change.{Change}
use Rattle.edit_entries.specs.Entries.{EntryData}
use Rattle.hall_log.specs.Histories.{IsHistory}
use Rattle.hall_core.specs.Histories.{IsNextChange}
use Rattle.hall_core.specs.BoardSteps.{StepData, applied_to}

-- the history with the room for one more entry, the list that all share, the prefix that is
-- published, the operations that the writer has beyond it, and the change that no writer has yet
pub record PublishedData : Type 0 where
  pub history : List EntryData
  pub spare : Spare
  pub listed : List EntryData
  pub shown : List EntryData
  pub waiting : List StepData
  pub change : Option Change

-- what is published and what is not make the history: a kept change is that of its last entry, or
-- what waits makes it
abbrev pub MakesHistory :
    List EntryData → List EntryData → List EntryData → List StepData → Option Change → Type 0
MakesHistory h listed shown waiting (Some change) =
    (waiting ≡ []) × IsNextChange shown h change.items
MakesHistory h listed shown waiting None =
    (fold applied_to shown waiting ≡ h) × (listed ≡ h)

-- a prefix of the history is published, at most one entry shorter; that entry may be listed
pub record IsPublished (h listed shown : List EntryData) (waiting : List StepData)
    (change : Option Change) : Type 0 where
  pub history : IsHistory h
  pub begins : IsPrefix shown h
  pub close : length h ≤ length shown + 1
  pub is_listed : (listed ≡ shown) ⊎ (listed ≡ h)
  pub makes : MakesHistory h listed shown waiting change

-- all of the history is published
abbrev pub IsCaughtUp : PublishedData → Type 0
IsCaughtUp d = (d.shown ≡ d.history) × (d.waiting ≡ []) × (d.change ≡ None)

-- the history and its room stay
abbrev pub IsSameHistory : PublishedData → PublishedData → Type 0
IsSameHistory old new = (new.history ≡ old.history) × (new.spare ≡ old.spare)

-- what is published and listed stays
abbrev pub IsSameShown : PublishedData → PublishedData → Type 0
IsSameShown old new =
    (new.listed ≡ old.listed) × (new.shown ≡ old.shown) × (new.waiting ≡ old.waiting)
    × (new.change ≡ old.change)
