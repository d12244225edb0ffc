-- Sets of names, by what they have (own).
use Rattle.std.specs.Prelude.{◌≡◌, ℕ, Bool, List}
use Rattle.std.specs.BTreeSet.{BTreeSet, contains}
use Rattle.std.specs.Cmp.Lexicographic.{slice_cmp}
use Rattle.std.specs.Ordering.{nat_cmp}

-- the name is in the set
abbrev pub set_has_name : BTreeSet (List ℕ) → List ℕ → Bool
set_has_name names q = contains (slice_cmp nat_cmp) names q

-- the set has the names that a test passes, and no other
abbrev pub HasNames : (List ℕ → Bool) → BTreeSet (List ℕ) → Type 0
HasNames test names = (q : List ℕ) → set_has_name names q ≡ test q
