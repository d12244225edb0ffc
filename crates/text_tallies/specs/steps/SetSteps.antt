-- Steps of the code; no public clause cites them.
-- One more key in a set.
use Rattle.std.specs.Prelude.{◌≡◌, ◌||◌}
use Rattle.std.specs.BTreeSet.{BTreeSet, contains}
use Rattle.std.specs.Ordering.{eq_by_cmp}
use Rattle.std.specs.declared.cmp.Ordering.{Ordering}

module _ {K : Type 0} (cmp : K → K → Ordering) where
  -- one more key
  abbrev pub Adds : K → BTreeSet K → BTreeSet K → Type 0
  Adds key old new =
      (q : K) → contains cmp new q ≡ (contains cmp old q || eq_by_cmp cmp q key)
