-- The ranks of keys (own): their places among the keys in order, each once.
use Rattle.std.specs.Prelude.{◌≡◌, ℕ, ◌+◌, ◌<◌, cond, Bool, true, List, [], Option, Some, slice_get, slice_index, length}
use Rattle.std.specs.declared.cmp.Ordering.{Ordering}
use Rattle.std.specs.declared.cmp.Ordering.TheVariants.{Equal}
use Rattle.std.specs.List.{dedup, range_with_len}
use Rattle.std.specs.Option.{option_cmp}
use Rattle.std.specs.Ordering.{eq_by_cmp, on}
use Rattle.geda_defs.specs.Order.{once_in_order}
use Rattle.rank_order.specs.Ranks.{by_rank}

-- the places of keys, in order of the keys, then of the places
abbrev pub by_keys : {K : Type 0} → (K → K → Ordering) → List K → List ℕ
by_keys cmp keys = once_in_order (by_rank [] cmp keys) (range_with_len 0 (length keys))

-- the keys at two places are equal
abbrev pub same_key : {K : Type 0} → (K → K → Ordering) → List K → ℕ → ℕ → Bool
same_key cmp keys = eq_by_cmp (on (slice_get keys) (option_cmp cmp))

-- among the keys in order this one has the rank
abbrev pub IsRank : {K : Type 0} → (K → K → Ordering) → List K → ℕ → Option K → Type 0
IsRank cmp keys rank key = option_cmp cmp (slice_get (once_in_order cmp keys) rank) key ≡ Equal

-- each key has its rank, and so many ranks there are
pub record AreRanks {K : Type 0} (cmp : K → K → Ordering) (keys : List K) (ranks : List ℕ)
    (count : ℕ) : Type 0 where
  pub len : length ranks ≡ length keys
  pub each : (i : ℕ) → i < length keys
      → IsRank cmp keys (slice_index ranks i) (slice_get keys i)
  pub all : count ≡ length (once_in_order cmp keys)

-- the head of a run of places whose keys are equal, and its rank, after one more place
abbrev pub run_with : (ℕ → ℕ → Bool) → ℕ × ℕ → ℕ → ℕ × ℕ
run_with same run place = cond (same place run.0) run (place, run.1 + 1)

-- at a rank stands a head whose run has the place
pub record IsInRun (same : ℕ → ℕ → Bool) (heads : List ℕ) (rank place : ℕ) : Type 0 where
  pub head : ℕ
  pub stands : slice_get heads rank ≡ Some head
  pub equal : same place head ≡ true

-- each place has the rank of the head of its run, and so many heads there are
pub record AreNumbers (same : ℕ → ℕ → Bool) (places ranks : List ℕ) (count : ℕ) : Type 0 where
  pub all : count ≡ length (dedup same places)
  pub each : (i : ℕ) → i < length places
      → IsInRun same (dedup same places) (slice_index ranks (slice_index places i))
      (slice_index places i)
