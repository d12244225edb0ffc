-- Sets of pairs of texts, by what they have (own).
use Rattle.std.specs.Prelude.{◌≡◌, ℕ, ◌&&◌, Bool, List}
use Rattle.std.specs.BTreeSet.{BTreeSet, contains}
use Rattle.std.specs.Cmp.Lexicographic.{slice_cmp}
use Rattle.std.specs.Ordering.{nat_cmp, on, then_cmp}
use Rattle.std.specs.Str.{bytes_eq}
use Rattle.std.specs.declared.cmp.Ordering.{Ordering}

-- a refdes, and a pin number or a slot
pub record PairData : Type 0 where
  pub first : List ℕ
  pub second : List ℕ

-- by the bytes of the first, then of the second
abbrev pub by_pair : PairData → PairData → Ordering
by_pair = then_cmp (on (λ p. p.first) (slice_cmp nat_cmp)) (on (λ p. p.second) (slice_cmp nat_cmp))

-- the same two texts
abbrev pub same_pair : PairData → PairData → Bool
same_pair p q = bytes_eq p.first q.first && bytes_eq p.second q.second

-- the pair is in the set
abbrev pub has_pair : BTreeSet PairData → PairData → Bool
has_pair pairs q = contains by_pair pairs q

-- the set has the pairs that a test passes, and no other
abbrev pub HasPairs : (PairData → Bool) → BTreeSet PairData → Type 0
HasPairs test pairs = (q : PairData) → has_pair pairs q ≡ test q
