-- Steps of the code; no public clause cites them.
-- The keys of the conductors of a drawing (own).
use Rattle.std.specs.Prelude.{◌≡◌, ◌≢◌, ◌≤◌, ◌<◌, ℕ, None, IsSome}
use Rattle.std.specs.FinMap.{FinMap, get}
use Rattle.geda_geom.specs.declared.conductor.Key.{Key}
use Rattle.geda_geom.specs.declared.conductor.Conductor.{Conductor}
use Rattle.geda_geom.specs.Keys.{by_key}

-- the key of the conductor at a place of a drawing
abbrev pub key_at : ℕ → Key
key_at place = record { id = place; place = 0 }

-- the keys of the first places are there, and no others
pub record HasFirst (conductors : FinMap by_key Conductor) (count : ℕ) : Type 0 where
  pub there : (i : ℕ) → i < count → IsSome (get conductors (key_at i))
  pub free : (i : ℕ) → count ≤ i → get conductors (key_at i) ≡ None

-- the keys of the first places are there, but for one
abbrev pub HasOthers : FinMap by_key Conductor → ℕ → ℕ → Type 0
HasOthers conductors count gone = (i : ℕ) → i < count → i ≢ gone
    → IsSome (get conductors (key_at i))
