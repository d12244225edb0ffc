-- What a call of a store tells, while others step as well (own).
use Rattle.std.specs.Prelude.{◌≡◌, ◌+◌, ℕ, Bool, true, false, List, length, Option, Some, None, Result, Ok, Err, slice_get}
use Rattle.engine_core.specs.Worlds.{TxnData, World, after_txn, elapsed, is_done, with_late}
use Rattle.engine_core.specs.declared.engine.EngineFault.{EngineFault}
use Rattle.engine_core.specs.declared.engine.EngineFault.TheVariants as faults
use Rattle.engine_core.specs.declared.engine.Owner.{Owner}
use Rattle.engine_core.specs.declared.engine.Taken.{Taken}
use Rattle.engine_core.specs.declared.txns.Act.TheVariants as acts
use Rattle.engine_core.specs.declared.txns.Event.{Event}

-- events lead from one world to the other
pub record Elapses (w v : World) : Type 0 where
  pub events : List Event
  pub are : elapsed events w ≡ v

-- a relation of the worlds before and after, where the store tells them
abbrev pub OfTold : (World → World → Type 0) → Option World → Option World → Type 0
OfTold R None None = Unit {0}
OfTold R None (Some v) = ⊥
OfTold R (Some w) None = ⊥
OfTold R (Some w) (Some v) = R w v

-- what was read was so at a moment of the call
pub record ReadsWorld (w v : World) (Tells : World → Type 0) : Type 0 where
  pub at : World
  pub before : Elapses w at
  pub told : Tells at
  pub after : Elapses at v

-- what was answered was done, or not done, at a moment of the call
pub record Does (t : TxnData) (w v : World) (Tells : World → Type 0) : Type 0 where
  pub at : World
  pub before : Elapses w at
  pub told : Tells at
  pub after : Elapses (after_txn t at) v

-- what was not answered may be done yet; without memory it was not asked
abbrev pub Asks : TxnData → World → World → EngineFault → Type 0
Asks t w v faults.NoAnswer = Elapses (with_late t w) v
Asks t w v faults.NoMemory = Elapses w v

-- who asks puts the owner's key where it stands at this revision
abbrev pub take_txn : ℕ → TxnData
take_txn fence = record { fence = fence; act = acts.Take }

-- a row is put where the owner's key stands at this revision
abbrev pub put_txn : ℕ → ℕ → List ℕ → TxnData
put_txn fence serial body = record { fence = fence; act = acts.Put serial body }

-- the owner's key is as it was told
pub record IsOwner (owner : Owner) (at : World) : Type 0 where
  pub fence : owner.fence ≡ at.fence
  pub ours : owner.ours ≡ at.ours

-- the owner's key was read
abbrev pub TellsOwner : World → World → Result Owner EngineFault → Type 0
TellsOwner w v (Ok owner) = ReadsWorld w v (IsOwner owner)
TellsOwner w v (Err e) = Elapses w v

-- a row was read
abbrev pub TellsRow : ℕ → World → World → Result (Option (List ℕ)) EngineFault → Type 0
TellsRow serial w v (Ok row) = ReadsWorld w v (λ at. row ≡ slice_get at.rows serial)
TellsRow serial w v (Err e) = Elapses w v

-- the owner's key was put at this revision, when there were so many rows
pub record IsTaken (under : ℕ) (taken : Taken) (at : World) : Type 0 where
  pub done : is_done under at ≡ true
  pub fence : taken.fence ≡ at.revision + 1
  pub count : taken.count ≡ length at.rows

-- the owner's key was put, or stands at another revision
abbrev pub IsTake : ℕ → Option Taken → World → Type 0
IsTake fence None at = is_done fence at ≡ false
IsTake fence (Some taken) at = IsTaken fence taken at

-- a taking was answered, or not
abbrev pub TellsTaking : ℕ → World → World → Result (Option Taken) EngineFault → Type 0
TellsTaking fence w v (Ok answer) = Does (take_txn fence) w v (IsTake fence answer)
TellsTaking fence w v (Err e) = Asks (take_txn fence) w v e

-- a row was put, or the owner's key stands at another revision, or there was no answer
abbrev pub TellsPut : ℕ → ℕ → List ℕ → World → World → Result Bool EngineFault → Type 0
TellsPut fence serial body w v (Ok answer) =
    Does (put_txn fence serial body) w v (λ at. answer ≡ is_done fence at)
TellsPut fence serial body w v (Err e) = Asks (put_txn fence serial body) w v e
