-- What copying the rows comes to, and telling how many were put (own).
use Rattle.std.specs.Prelude.{ℕ, Result, Ok, Err}
use Rattle.sinks.specs.Streams.{IsQuiet, Stream, WrotePrefix, WroteWhole}
use Rattle.store_copy.specs.Storing.{DiffersAt, Keepers, PutsNone, PutsFirst, PutsRows, RefusesRow, stored_line}
use Rattle.store_copy.specs.declared.storing_fault.StoringFault.{StoringFault}
use Rattle.store_copy.specs.declared.storing_fault.StoringFault.TheVariants as faults

abbrev pub CopiesTo : Keepers → Result ℕ StoringFault → Type 0
CopiesTo keepers (Ok count) = PutsRows keepers count
CopiesTo keepers (Err faults.KeeperFault) =
    ¬ (keepers.store_steady × keepers.database_steady) × PutsFirst keepers
CopiesTo keepers (Err (faults.RowRefused serial)) = RefusesRow keepers serial × PutsNone keepers
CopiesTo keepers (Err (faults.RowDiffers serial)) = DiffersAt keepers serial × PutsNone keepers
CopiesTo keepers (Err faults.OutputFault) = ⊥
CopiesTo keepers (Err faults.NoMemory) = PutsFirst keepers

abbrev pub Tells : Stream → ℕ → Result (Unit {0}) StoringFault → Type 0
Tells out count (Ok _) = WroteWhole out (stored_line count)
Tells out count (Err faults.OutputFault) = WrotePrefix out (stored_line count)
Tells out count (Err faults.NoMemory) = IsQuiet out
Tells out count (Err fault) = ⊥
