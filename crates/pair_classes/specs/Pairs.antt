-- Pairs of places that are to stand in one class, and pairs that stand for all links (own).
use Rattle.std.specs.Prelude.{◌≡◌, ℕ, ◌<◌, ◌⊎◌, List, All, Contains}
use Rattle.geda_defs.specs.Classes.{Joined}

-- two places are paired, in either order
abbrev pub ArePaired : List (ℕ × ℕ) → ℕ → ℕ → Type 0
ArePaired pairs i j = Contains pairs (i, j) ⊎ Contains pairs (j, i)

-- both places of each pair are below the count
abbrev pub AreWithin : ℕ → List (ℕ × ℕ) → Type 0
AreWithin count pairs = All (λ p. (p.0 < count) × (p.1 < count)) pairs

-- a label that no pair changes
abbrev pub IsSameAt : (ℕ → ℕ) → List (ℕ × ℕ) → Type 0
IsSameAt f pairs = (i j : ℕ) → ArePaired pairs i j → f i ≡ f j

-- pairs of places below the count: each is joined by links, and what no pair changes no link
-- changes
pub record Spans (R : ℕ → ℕ → Type 0) (count : ℕ) (pairs : List (ℕ × ℕ)) : Type 0 where
  pub within : AreWithin count pairs
  pub inside : (i j : ℕ) → ArePaired pairs i j → Joined R i j
  pub covers : (f : ℕ → ℕ) → IsSameAt f pairs → (i j : ℕ) → R i j → f i ≡ f j
