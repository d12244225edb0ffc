-- Steps of the code; no public clause cites them.
-- Keys of conductors gathered with their places: each further place of a key is paired with the
-- first (own). A key is a name, or a group in an instance.
use Rattle.std.specs.Prelude.{◌≡◌, ◌⊎◌, ℕ, Bool, cond, Option, Some, None}
use Rattle.std.specs.Prelude.{List, [], ◌∷◌, Contains}
use Rattle.std.specs.Option.{option_or}
use Rattle.flat_rows.specs.Conductors.{FlatConductor}
use Rattle.flat_rows.specs.Keyed.{Keyed}

-- two have a key in common
abbrev pub ShareKey : {K : Type 0} → (FlatConductor → List K) → FlatConductor → FlatConductor
    → Type 0
ShareKey {K} keys f g = (key : K) × Contains (keys f) key × Contains (keys g) key

-- the pair of a first place and a further one
abbrev pub pair_with : Option ℕ → ℕ → List (ℕ × ℕ)
pair_with None place = []
pair_with (Some first) place = (first, place) ∷ []

-- the first place of each key, where one more key has a place; one test tells keys apart
abbrev pub AddsKey : {K : Type 0} → (K → K → Bool) → K → ℕ → (K → Option ℕ) → (K → Option ℕ)
    → Type 0
AddsKey {K} same key place old new =
    (q : K) → new q ≡ option_or (old q) (cond (same key q) (Some place) None)

-- the first place of each key, and the pairs, for keys with their places
pub record TiesKeys {K : Type 0} (first : K → Option ℕ) (pairs : List (ℕ × ℕ))
    (keyed : List (Keyed K)) : Type 0 where
  pub from : (q : K) (p : ℕ) → first q ≡ Some p → Contains keyed (q, p)
  pub inside : (i j : ℕ)
      → Contains pairs (i, j) → (q : K) × Contains keyed (q, i) × Contains keyed (q, j)
  pub covers : (q : K) (i : ℕ)
      → Contains keyed (q, i) → (p : ℕ) × (first q ≡ Some p) × ((p ≡ i) ⊎ Contains pairs (p, i))
