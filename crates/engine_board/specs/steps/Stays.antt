-- What an owner still holds when others have stepped, and when a row was put.
use Rattle.std.specs.Prelude.{◌≡◌, ◌++◌, ◌∷◌, [], ℕ, ◌+◌, ◌<◌, ◌≤◌, Bool, true, false, List, take}
use Rattle.std.specs.List.{AllByRecursion}
use Rattle.engine_core.specs.Worlds.{World}
use Rattle.engine_board.specs.Holding.{IsHolding}

-- the owner holds the board still, the rows that it vouches for are the same, and what it lost
-- stays lost
pub record Stays (under : ℕ) (doubt : Bool) (count : ℕ) (w v : World) : Type 0 where
  pub holding : IsHolding under doubt count v
  pub same : take count v.rows ≡ take count w.rows
  pub lost : w.ours ≡ false → v.ours ≡ false

-- so it was found that another one has the board
pub record StaysLost (under : ℕ) (doubt : Bool) (count : ℕ) (w v : World) : Type 0 where
  pub stays : Stays under doubt count w v
  pub others : v.ours ≡ false

-- the owner holds the board, and vouches for one row more
pub record HasPut (under count : ℕ) (body : List ℕ) (w v : World) : Type 0 where
  pub holding : IsHolding under false (count + 1) v
  pub more : take (count + 1) v.rows ≡ take count w.rows ++ body ∷ []
  pub own : w.ours ≡ true

-- an owner at this revision has lost the board: another one has it, and all that was asked is older
pub record IsLost (under : ℕ) (w : World) : Type 0 where
  pub later : under < w.fence
  pub now : w.fence ≤ w.revision
  pub others : w.ours ≡ false
  pub late : AllByRecursion (λ t. t.fence ≤ under) w.late
