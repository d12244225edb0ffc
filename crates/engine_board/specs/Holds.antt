-- What the calls of an owner do to what it holds (own).
use Rattle.std.specs.Prelude.{◌≡◌, ◌++◌, ◌∷◌, [], ℕ, ◌+◌, true, false, List, Option, Result, Ok, Err, IfOk, slice_get, take}
use Rattle.engine_core.specs.Worlds.{World}
use Rattle.engine_core.specs.declared.engine.EngineFault.{EngineFault}
use Rattle.engine_board.specs.Holding.{IsHolding}
use Rattle.engine_board.specs.declared.hold.Hold.{Hold}

-- the owner vouches for its rows, and says that it lost the board only where another one has it
pub record HoldsBoard (hold : Hold) (w : World) : Type 0 where
  pub holding : IsHolding hold.fence hold.doubt hold.count w
  pub lost : hold.lost ≡ true → w.ours ≡ false

-- it vouches for the same rows as before, and does not get back what it lost
pub record KeepsRows (old new : Hold) (w v : World) : Type 0 where
  pub held : HoldsBoard new v
  pub count : new.count ≡ old.count
  pub same : take old.count v.rows ≡ take old.count w.rows
  pub lost : w.ours ≡ false → v.ours ≡ false

-- it vouches for one row more, which it puts only where it has the board
pub record AddsRow (old new : Hold) (body : List ℕ) (w v : World) : Type 0 where
  pub held : HoldsBoard new v
  pub count : new.count ≡ old.count + 1
  pub more : take new.count v.rows ≡ take old.count w.rows ++ body ∷ []
  pub own : w.ours ≡ true

-- a row was put, or the rows that are vouched for are as before
abbrev pub EndsPut : Hold → Hold → List ℕ → World → World → Result Unit EngineFault → Type 0
EndsPut old new body w v (Ok u) = AddsRow old new body w v
EndsPut old new body w v (Err e) = KeepsRows old new w v

-- a row that is vouched for, or none
pub record ShowsRow
    (hold : Hold) (serial : ℕ) (result : Result (Option (List ℕ)) EngineFault) (w v : World) :
    Type 0 where
  pub keeps : KeepsRows hold hold w v
  pub row : IfOk result (λ row. row ≡ slice_get (take hold.count w.rows) serial)
