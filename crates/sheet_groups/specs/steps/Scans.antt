-- Steps of the code; no public clause cites them.
-- The pairs of all that touches, place by place (own).
use Rattle.std.specs.Prelude.{◌<◌, ℕ, List, Contains}
use Rattle.sheet_groups.specs.declared.drawn.DrawnConductor.{DrawnConductor}
use Rattle.sheet_groups.specs.steps.Touching.{TouchAtPlaces}

-- each pair touches, and each place before a count is paired with all that touches it
pub record HasPairsBefore (drawn : List DrawnConductor) (count : ℕ) (pairs : List (ℕ × ℕ))
    : Type 0 where
  pub sound : (i j : ℕ) → Contains pairs (i, j) → TouchAtPlaces drawn i j
  pub full : (i j : ℕ) → i < count → TouchAtPlaces drawn i j → Contains pairs (i, j)

-- the place at that count is so too with all places before another count
pub record HasPairsOf (drawn : List DrawnConductor) (place count : ℕ) (pairs : List (ℕ × ℕ))
    : Type 0 where
  pub before : HasPairsBefore drawn place pairs
  pub here : (j : ℕ) → j < count → TouchAtPlaces drawn place j → Contains pairs (place, j)
