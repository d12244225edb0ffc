-- Putting the rest of a history into a keeper (own).
use Rattle.std.specs.Prelude.{◌≡◌, ◌⊎◌, ◌≤◌, ⊤, ℕ, List, length, take, Option, IfSome, Result, Ok, Err}
use Rattle.std.specs.Option.{option_map}
use Rattle.edit_entries.specs.Entries.{EntryData}
use Rattle.store_copy.specs.Copies.{AreFirst, Filled, IsFirstDifference}
use Rattle.store_copy.specs.declared.fault.StoreFault.{StoreFault}
use Rattle.store_copy.specs.declared.fault.StoreFault.TheVariants as faults

-- told rows are the first so many of a history; what was told still is
abbrev pub HasFirst :
    ℕ → List EntryData → Option (List EntryData) → Option (List EntryData) → Type 0
HasFirst n h old now = now ≡ option_map (λ _. take n h) old

-- so it is with some number
abbrev pub HasSome : List EntryData → Option (List EntryData) → Option (List EntryData) → Type 0
HasSome h old now = (n : ℕ) × HasFirst n h old now

-- it is a fault of the keeper that is copied into, or want of memory
abbrev pub IsOfTo : {X : Type 0} → Result X StoreFault → Type 0
IsOfTo (Ok _) = ⊤
IsOfTo (Err faults.ToFault) = ⊤
IsOfTo (Err faults.NoMemory) = ⊤
IsOfTo (Err fault) = ⊥

-- what comes of the rows, given the history that is copied
abbrev pub Copies :
    List EntryData → Option (List EntryData) → Result ℕ StoreFault → Option (List EntryData)
    → Type 0
Copies h old (Ok count) new = IfSome old (λ had. Filled h had new count)
Copies h old (Err (faults.Differs serial)) new =
    (new ≡ old) × IfSome old (λ had. IsFirstDifference h had serial)
Copies h old (Err faults.FromFault) new = ⊥
Copies h old (Err (faults.RowRefused serial)) new = ⊥
Copies h old (Err fault) new = (new ≡ old) ⊎ IfSome new (AreFirst h)
