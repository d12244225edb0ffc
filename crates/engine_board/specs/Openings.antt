-- How a board is taken (own).
use Rattle.std.specs.Prelude.{◌≡◌, ◌≤◌, false, Option, Some, None, Result, Ok, Err, length, take}
use Rattle.engine_core.specs.Calls.{Elapses}
use Rattle.engine_core.specs.Worlds.{World}
use Rattle.engine_core.specs.declared.engine.EngineFault.{EngineFault}
use Rattle.engine_board.specs.Holding.{IsFresh}
use Rattle.engine_board.specs.Holds.{HoldsBoard}
use Rattle.engine_board.specs.declared.hold.Hold.{Hold}

-- nothing was asked here under a revision that is still to come, and the key was not put back
pub record StaysFresh (w v : World) : Type 0 where
  pub fresh : IsFresh v
  pub later : w.fence ≤ v.fence

-- the board was taken at a moment of the call, and all rows that were there then are vouched for
pub record OpensBoard (hold : Hold) (w v : World) : Type 0 where
  pub at : World
  pub before : Elapses w at
  pub count : hold.count ≡ length at.rows
  pub same : take hold.count v.rows ≡ at.rows
  pub sure : hold.doubt ≡ false
  pub has : hold.lost ≡ false
  pub held : HoldsBoard hold v

-- it was taken, or another one took it in between, or there was no answer
abbrev pub TellsOpening : World → World → Result (Option Hold) EngineFault → Type 0
TellsOpening w v (Ok (Some hold)) = OpensBoard hold w v
TellsOpening w v (Ok None) = StaysFresh w v
TellsOpening w v (Err e) = StaysFresh w v
