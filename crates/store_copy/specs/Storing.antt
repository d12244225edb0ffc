-- What copying a store into a database comes to (own).
use Rattle.std.specs.Prelude.{◌≡◌, ◌⊎◌, ◌++◌, ℕ, List, Result, Ok, Err, IfSome, codes}
use Rattle.std.specs.declared.option.Option.{Option}
use Rattle.std.specs.Fmt.{decimal}
use Rattle.edit_entries.specs.Entries.{EntryData}
use Rattle.edit_rules.specs.Verdicts.{Legal}
use Rattle.hall_core.specs.Rows.{IsRefusedAt}
use Rattle.sinks.specs.Streams.{IsQuiet, Stream, WrotePrefix, WroteWhole}
use Rattle.store_copy.specs.Copies.{AreFirst, Filled, IsFirstDifference}
use Rattle.store_copy.specs.declared.storing_fault.StoringFault.{StoringFault}
use Rattle.store_copy.specs.declared.storing_fault.StoringFault.TheVariants as faults

-- the keeper of the store and that of the database: that no call of it ever fails, and its rows,
-- where it tells them; of the database, those that it had and those that it has now
pub record Keepers : Type 1 where
  pub store_steady : Type 0
  pub database_steady : Type 0
  pub store : Option (List EntryData)
  pub had : Option (List EntryData)
  pub has : Option (List EntryData)

-- the five, from what was told before and of the database now
abbrev pub keepers :
    Type 0 → Type 0 → Option (List EntryData) → Option (List EntryData)
    → Option (List EntryData) → Keepers
keepers store_steady database_steady store had has = record {
  store_steady = store_steady;
  database_steady = database_steady;
  store = store;
  had = had;
  has = has;
}

-- the line that tells how many rows were put
abbrev pub stored_line : ℕ → List ℕ
stored_line count = codes "stored " ++ decimal count ++ codes "\n"

-- told rows of the store are a legal history, and where the database told its rows it has all of
-- them now: those that it had are the first, and so many were put
abbrev pub PutsRows : Keepers → ℕ → Type 0
PutsRows keepers count =
    IfSome keepers.store
    (λ all. Legal all × IfSome keepers.had (λ had. Filled all had keepers.has count))

-- the rows of the database are those that it had
abbrev pub PutsNone : Keepers → Type 0
PutsNone keepers = keepers.has ≡ keepers.had

-- the rows of the database are those that it had; or told rows of the store are a legal history,
-- and where the database told its rows it has the first of them now
abbrev pub PutsFirst : Keepers → Type 0
PutsFirst keepers =
    PutsNone keepers
    ⊎ IfSome keepers.store
    (λ all. Legal all × IfSome keepers.had (λ _. IfSome keepers.has (AreFirst all)))

-- of told rows of the store the one of this serial is the first that the rules do not accept
abbrev pub RefusesRow : Keepers → ℕ → Type 0
RefusesRow keepers serial = IfSome keepers.store (λ all. IsRefusedAt all serial)

-- told rows of the store are a legal history, and told rows of the database have one at this
-- serial, which is none or another one of them; it is the first such one
abbrev pub DiffersAt : Keepers → ℕ → Type 0
DiffersAt keepers serial =
    IfSome keepers.store
    (λ all. Legal all × IfSome keepers.had (λ had. IsFirstDifference all had serial))

-- why a copying ends so, which rows the database has then, and what is out
abbrev pub StoresTo : Keepers → Stream → Result (Unit {0}) StoringFault → Type 0
StoresTo keepers out (Ok _) =
    (count : ℕ) × PutsRows keepers count × WroteWhole out (stored_line count)
StoresTo keepers out (Err faults.KeeperFault) =
    ¬ (keepers.store_steady × keepers.database_steady) × PutsFirst keepers × IsQuiet out
StoresTo keepers out (Err (faults.RowRefused serial)) =
    RefusesRow keepers serial × PutsNone keepers × IsQuiet out
StoresTo keepers out (Err (faults.RowDiffers serial)) =
    DiffersAt keepers serial × PutsNone keepers × IsQuiet out
StoresTo keepers out (Err faults.OutputFault) =
    (count : ℕ) × PutsRows keepers count × WrotePrefix out (stored_line count)
StoresTo keepers out (Err faults.NoMemory) = PutsFirst keepers × IsQuiet out
