-- How a board is taken, in two calls.
use Rattle.std.specs.Prelude.{◌≡◌, ◌≤◌, ℕ, false, Option, Some, None, Result, Ok, Err, length, take}
use Rattle.engine_core.specs.Calls.{Elapses}
use Rattle.engine_core.specs.Worlds.{World}
use Rattle.engine_core.specs.declared.engine.EngineFault.{EngineFault}
use Rattle.engine_core.specs.declared.engine.Taken.{Taken}
use Rattle.engine_board.specs.Holding.{IsFresh, IsHolding}
use Rattle.engine_board.specs.Openings.{StaysFresh}

-- the board can be taken at this revision
pub record MayTake (under : ℕ) (w : World) : Type 0 where
  pub fresh : IsFresh w
  pub reached : under ≤ w.fence

-- the board was taken at a moment of the call, and all rows that were there then are vouched for
pub record Opens (taken : Taken) (w v : World) : Type 0 where
  pub at : World
  pub before : Elapses w at
  pub count : taken.count ≡ length at.rows
  pub same : take taken.count v.rows ≡ at.rows
  pub holding : IsHolding taken.fence false taken.count v

-- it was taken, or not
abbrev pub Opened : World → World → Result (Option Taken) EngineFault → Type 0
Opened w v (Ok (Some taken)) = Opens taken w v
Opened w v (Ok None) = StaysFresh w v
Opened w v (Err e) = StaysFresh w v
