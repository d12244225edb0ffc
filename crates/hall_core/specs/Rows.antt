-- What a keeper's rows make of a history (own).
use Rattle.std.specs.Prelude.{◌≡◌, ◌<◌, ℕ, List, length, take, Option, Some, IfSome, Result, Ok, Err, IsErrOf}
use Rattle.std.specs.List.{slice_get}
use Rattle.edit_entries.specs.Entries.{EntryData}
use Rattle.edit_rules.specs.Verdicts.{Legal}
use Rattle.edit_desk.specs.Desks.{DeskView}
use Rattle.hall_log.specs.Histories.{MayFollow}
use Rattle.hall_core.specs.declared.rows.OpenFault.{OpenFault}
use Rattle.hall_core.specs.declared.rows.OpenFault.TheVariants as faults

-- the row of this serial is the first that the rules do not accept after those before it
pub record IsRefusedAt (all : List EntryData) (serial : ℕ) : Type 0 where
  pub within : serial < length all
  pub legal : Legal (take serial all)
  pub refused : (e : EntryData) → slice_get all serial ≡ Some e → ¬ (MayFollow (take serial all) e)

-- the keeper still never fails, and this was no fault of it
pub record NeverFaults {X : Type 0} (now : Type 0) (result : Result X OpenFault) : Type 0 where
  pub still : now
  pub no_fault : ¬ (IsErrOf result faults.KeeperFault)

-- where a row is refused, it is the first that the rules do not accept
abbrev pub Refuses : Option (List EntryData) → OpenFault → Type 0
Refuses rows (faults.RowRefused serial) = IfSome rows (λ all. IsRefusedAt all serial)
Refuses rows _ = Unit {0}

-- the history is the rows
abbrev pub ReadsRows : Option (List EntryData) → Result DeskView OpenFault → Type 0
ReadsRows rows (Ok desk) = Legal desk.history × IfSome rows (λ all. all ≡ desk.history)
ReadsRows rows (Err fault) = Refuses rows fault
