-- What copying the rows of one keeper into another comes to (own).
use Rattle.std.specs.Prelude.{◌≡◌, ◌⊎◌, ◌<◌, ◌+◌, ℕ, List, length, take, Option, Some, IfSome, Result, Ok, Err, IsErrOf}
use Rattle.std.specs.List.{slice_get}
use Rattle.edit_entries.specs.Entries.{EntryData}
use Rattle.edit_rules.specs.Verdicts.{Legal}
use Rattle.hall_core.specs.Rows.{IsRefusedAt}
use Rattle.store_copy.specs.declared.fault.StoreFault.{StoreFault}
use Rattle.store_copy.specs.declared.fault.StoreFault.TheVariants as faults

-- the keeper still never fails, and this was no fault of it
pub record CausesNoFault {X : Type 0}
    (now : Type 0) (result : Result X StoreFault) (fault : StoreFault) : Type 0 where
  pub still : now
  pub no_fault : ¬ (IsErrOf result fault)

-- the rows have one at this serial, which is none or another one of these, and before it they are
-- the same
pub record IsFirstDifference (all had : List EntryData) (serial : ℕ) : Type 0 where
  pub within : serial < length had
  pub same : take serial had ≡ take serial all
  pub other : ¬ (slice_get had serial ≡ slice_get all serial)

-- all rows are there now; those that were there are the first of them, and so many were put
pub record Filled
    (all had : List EntryData) (new : Option (List EntryData)) (count : ℕ) : Type 0 where
  pub now : new ≡ Some all
  pub first : had ≡ take (length had) all
  pub put : count + length had ≡ length all

-- the rows are the first of these
abbrev pub AreFirst : List EntryData → List EntryData → Type 0
AreFirst all now = (n : ℕ) × (now ≡ take n all)

-- what comes of the rows of a keeper, given those of the one that is copied from
abbrev pub Stores :
    Option (List EntryData) → Option (List EntryData) → Result ℕ StoreFault
    → Option (List EntryData) → Type 0
Stores from old (Ok count) new =
    IfSome from (λ all. Legal all × IfSome old (λ had. Filled all had new count))
Stores from old (Err faults.FromFault) new = new ≡ old
Stores from old (Err (faults.RowRefused serial)) new =
    (new ≡ old) × IfSome from (λ all. IsRefusedAt all serial)
Stores from old (Err (faults.Differs serial)) new =
    (new ≡ old)
    × IfSome from (λ all. Legal all × IfSome old (λ had. IsFirstDifference all had serial))
Stores from old (Err fault) new =
    (new ≡ old) ⊎ IfSome from (λ all. Legal all × IfSome new (AreFirst all))
