-- Ways of which each follows the one before it, and the places of the ways above the last one
-- (own).
use Rattle.std.specs.Prelude.{◌≡◌, ◌==◌, ◌+◌, ◌-◌, ◌<◌, ◌⊎◌, ℕ, if◌then◌else◌, List, [], ◌∷◌, ◌++◌, Option, None, drop, length, slice_index_or}
use Rattle.std.specs.List.{slice_get}
use Rattle.hierarchy.specs.declared.way.Step.{Step}
use Rattle.hierarchy.specs.Ways.{WayData, extended}

-- a way begins with the root and the steps of another
pub record IsBelow (u v : WayData) : Type 0 where
  pub same_root : v.root ≡ u.root
  pub rest : List Step
  pub goes_on : v.steps ≡ u.steps ++ rest

-- a way that may stand directly behind another: a root, or a child of what the other begins with
abbrev pub Follows : WayData → WayData → Type 0
Follows u v = (v.steps ≡ []) ⊎ ((t : WayData) × (s : Step) × IsBelow t u × (v ≡ extended t s))

-- each way follows the one before it
abbrev pub AllFollow : WayData → List WayData → Type 0
AllFollow u [] = Unit {0}
AllFollow u (v ∷ vs) = Follows u v × AllFollow v vs

-- the same from the first way on, which is a root
abbrev pub AreInOrder : List WayData → Type 0
AreInOrder [] = Unit {0}
AreInOrder (v ∷ vs) = (v.steps ≡ []) × AllFollow v vs

-- a way stands at a place among some ways
pub record StandsAt (ws : List WayData) (place : ℕ) (w : WayData) : Type 0 where
  pub within : place < length ws
  pub same : (d : WayData) → slice_index_or ws place d ≡ w

-- the places of all ways with which a way begins, by their number of steps
pub record ArePlaces (ws : List WayData) (u : WayData) (entered : List ℕ) : Type 0 where
  pub each : (t : WayData) → IsBelow t u → StandsAt ws (slice_index_or entered (length t.steps) 0) t
  pub count : length entered ≡ length u.steps + 1

-- the ways from a place on follow the way before it, whose places are known, or begin with a root
abbrev pub IsReady : List WayData → ℕ → List ℕ → Type 0
IsReady ws k entered =
    AreInOrder (drop k ws) ⊎ ((u : WayData) × ArePlaces ws u entered × AllFollow u (drop k ws))

-- the place of the way directly above, by the places on the way to the way before
abbrev pub parent_in : List ℕ → WayData → Option ℕ
parent_in entered w = if length w.steps == 0 then None else slice_get entered (length w.steps - 1)
