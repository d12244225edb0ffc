-- Steps of the code; no public clause cites them.
-- Places in trees (own).
use Rattle.std.specs.Prelude.{◌≡◌, ℕ, ◌<◌, ◌≤◌, List, ◌++◌, length, slice_index}
use Rattle.geda_defs.specs.Classes.{Joined}
use Rattle.pair_classes.specs.Pairs.{ArePaired, IsSameAt}

-- each place stands at itself
abbrev pub StandAtThemselves : List ℕ → Type 0
StandAtThemselves places = (k : ℕ) → k < length places → slice_index places k ≡ k

-- each place has a parent, which is no later place
abbrev pub IsForest : List ℕ → Type 0
IsForest parents = (k : ℕ) → k < length parents → slice_index parents k ≤ k

-- a place that is its own parent
pub record IsTop (parents : List ℕ) (k : ℕ) : Type 0 where
  pub within : k < length parents
  pub own : slice_index parents k ≡ k

-- the step from a place to its parent
pub record IsParent (parents : List ℕ) (k parent : ℕ) : Type 0 where
  pub within : k < length parents
  pub is : parent ≡ slice_index parents k

-- a way up leads from one place to the other
abbrev pub LeadsUp : List ℕ → ℕ → ℕ → Type 0
LeadsUp parents i j = Joined (IsParent parents) i j

-- each new parent stands on the old way up
abbrev pub AreAbove : List ℕ → List ℕ → Type 0
AreAbove old new = (k : ℕ) → k < length old → LeadsUp old k (slice_index new k)

-- each parent is joined to its place
abbrev pub AreJoined : (ℕ → ℕ → Type 0) → List ℕ → Type 0
AreJoined R parents = (k : ℕ) → k < length parents → Joined R k (slice_index parents k)

-- a labelling gives each place the label of its parent
abbrev pub Labels : (ℕ → ℕ) → List ℕ → Type 0
Labels f parents = (k : ℕ) → k < length parents → f k ≡ f (slice_index parents k)

-- what labels the second trees labels the first
abbrev pub KeepsLabels : List ℕ → List ℕ → Type 0
KeepsLabels old new = (f : ℕ → ℕ) → Labels f new → Labels f old

-- each parent is joined to its place by pairs, and what labels the trees labels both places of each
-- pair the same
pub record AreUnionsOf (pairs : List (ℕ × ℕ)) (parents : List ℕ) : Type 0 where
  pub joined : AreJoined (ArePaired pairs) parents
  pub tied : (f : ℕ → ℕ) → Labels f parents → IsSameAt f pairs

-- the new trees are the unions of these pairs, too, whichever pairs the old ones are the unions of
abbrev pub AddsUnions : List (ℕ × ℕ) → List ℕ → List ℕ → Type 0
AddsUnions added old new =
    (pairs : List (ℕ × ℕ)) → AreUnionsOf pairs old → AreUnionsOf (pairs ++ added) new
