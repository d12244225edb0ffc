-- Comparing the rows of a keeper with a history (own).
use Rattle.std.specs.Prelude.{◌≡◌, ◌<◌, ◌≤◌, ⊤, ℕ, Bool, true, false, List, length, take, Option, None, IfSome, Result, Ok, Err}
use Rattle.std.specs.List.{slice_get}
use Rattle.edit_entries.specs.Entries.{EntryData}
use Rattle.store_copy.specs.Copies.{IsFirstDifference}
use Rattle.store_copy.specs.declared.fault.StoreFault.{StoreFault}
use Rattle.store_copy.specs.declared.fault.StoreFault.TheVariants as faults

-- the rows have one at this serial, which is none or another one of the history
pub record IsOther (h all : List EntryData) (serial : ℕ) : Type 0 where
  pub within : serial < length all
  pub other : ¬ (slice_get all serial ≡ slice_get h serial)

-- whether there is a row at this serial, which is that of the history
abbrev pub Agrees : Option (List EntryData) → List EntryData → ℕ → Result Bool StoreFault → Type 0
Agrees rows h serial (Ok true) =
    (serial < length h) × IfSome rows (λ all. slice_get all serial ≡ slice_get h serial)
Agrees rows h serial (Ok false) = IfSome rows (λ all. slice_get all serial ≡ None)
Agrees rows h serial (Err (faults.Differs n)) =
    (n ≡ serial) × IfSome rows (λ all. IsOther h all serial)
Agrees rows h serial (Err faults.ToFault) = ⊤
Agrees rows h serial (Err faults.NoMemory) = ⊤
Agrees rows h serial (Err fault) = ⊥

-- how many rows there are, which are the first of the history
abbrev pub AgreesSoFar : Option (List EntryData) → List EntryData → Result ℕ StoreFault → Type 0
AgreesSoFar rows h (Ok n) = (n ≤ length h) × IfSome rows (λ all. all ≡ take n h)
AgreesSoFar rows h (Err (faults.Differs n)) = IfSome rows (λ all. IsFirstDifference h all n)
AgreesSoFar rows h (Err faults.ToFault) = ⊤
AgreesSoFar rows h (Err faults.NoMemory) = ⊤
AgreesSoFar rows h (Err fault) = ⊥
