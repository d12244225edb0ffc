-- Lists in order, each member once (own).
use Rattle.std.specs.Prelude.{◌≡◌, ℕ, Bool, List, [], Some, All, IsSome}
use Rattle.std.specs.declared.cmp.Ordering.{Ordering}
use Rattle.std.specs.List.{fold, find}
use Rattle.std.specs.List.Sorted.{IsStrictlySortedBy}
use Rattle.std.specs.BTreeSet.{insert_key}
use Rattle.std.specs.Cmp.Lexicographic.{slice_cmp}
use Rattle.std.specs.Ordering.{is_eq, nat_cmp}

-- the members in rising order; of several that compare as equal, the first alone
abbrev pub once_in_order : {K : Type 0} → (K → K → Ordering) → List K → List K
once_in_order cmp xs = fold (insert_key cmp) [] xs

-- the two compare as equal
abbrev pub is_equal : {K : Type 0} → (K → K → Ordering) → K → K → Bool
is_equal cmp x y = is_eq (cmp x y)

-- the same in plain words, which hold in each total order: each member listed is below those after
-- it; each one given equals one that is listed; each one listed is the first of its equals among
-- those given
pub record IsOnceInOrder {K : Type 0} (cmp : K → K → Ordering) (given listed : List K)
    : Type 0 where
  pub rising : IsStrictlySortedBy cmp listed
  pub each : All (λ x. IsSome (find (is_equal cmp x) listed)) given
  pub first : All (λ x. find (is_equal cmp x) given ≡ Some x) listed

-- texts by their bytes
abbrev pub by_bytes : List ℕ → List ℕ → Ordering
by_bytes = slice_cmp nat_cmp
