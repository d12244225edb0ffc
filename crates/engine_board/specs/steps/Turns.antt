-- What the calls of an owner tell, one by one.
use Rattle.std.specs.Prelude.{ℕ, Bool, true, false, List, Option, Some, None, Result, Ok, Err}
use Rattle.engine_core.specs.Worlds.{World}
use Rattle.engine_core.specs.declared.engine.EngineFault.{EngineFault}
use Rattle.engine_core.specs.declared.engine.Owner.{Owner}
use Rattle.engine_core.specs.declared.engine.Taken.{Taken}
use Rattle.engine_board.specs.Holds.{AddsRow, KeepsRows}
use Rattle.engine_board.specs.declared.hold.Hold.{Hold}
use Rattle.engine_board.specs.steps.Stays.{HasPut, Stays, StaysLost}

-- the board is taken anew, and nothing is in doubt
abbrev pub Renews : ℕ → ℕ → World → World → Result (Option Taken) EngineFault → Type 0
Renews fence count w v (Ok (Some taken)) = Stays taken.fence false count w v
Renews fence count w v (Ok None) = Stays fence true count w v
Renews fence count w v (Err e) = Stays fence true count w v

-- the owner's own revision is found, or that another one has the board
abbrev pub FindsOwn : ℕ → ℕ → World → World → ℕ → Bool → Type 0
FindsOwn fence count w v under true = Stays under true count w v
FindsOwn fence count w v under false = StaysLost fence true count w v

-- the owner's key is read
abbrev pub Finds : ℕ → ℕ → World → World → Result Owner EngineFault → Type 0
Finds fence count w v (Ok owner) = FindsOwn fence count w v owner.fence owner.ours
Finds fence count w v (Err e) = Stays fence true count w v

-- a row is put
abbrev pub Sends : ℕ → ℕ → List ℕ → World → World → Result Bool EngineFault → Type 0
Sends fence count body w v (Ok true) = HasPut fence count body w v
Sends fence count body w v (Ok false) = Stays fence true count w v
Sends fence count body w v (Err e) = Stays fence true count w v

-- a row is tried once
abbrev pub Tries : Hold → Hold → List ℕ → World → World → Result Bool EngineFault → Type 0
Tries old new body w v (Ok true) = AddsRow old new body w v
Tries old new body w v (Ok false) = KeepsRows old new w v
Tries old new body w v (Err e) = KeepsRows old new w v
