-- Lists of which each two stand in a relation, lists in order, and lists that stand side by side.
use Rattle.std.proofs.Common.{◌≡◌, ◌≢◌, ℕ, zero, suc, Bool, true, List, [], ◌∷◌, ◌++◌, Option, Some, None, Contains, Ordering, map, filter, fold, refl, sym, ap, ◌∙◌, subst, arith, true≢false}
use Rattle.std.specs.Prelude.{All, IsSome}
use Rattle.std.specs.declared.cmp.Ordering.TheVariants.{Less, Equal, Greater}
use Rattle.std.specs.BTreeSet.{insert_key}
use Rattle.std.specs.Cmp.{IsTotalOrder, tied_itself}
use Rattle.std.specs.List.{AllPairs, AllZip, find, slice_get}
use Rattle.std.specs.List.Sorted.{IsStrictlySortedBy}
use Rattle.std.specs.Ordering.{is_eq, match_ordering, on}
use Rattle.std.proofs.lemmas.List.Elements.{All-append, All-contains, All-contains_itself, All-filter, All-from_recursion, All-head, All-tail, All-weaker, filter_passes}
use Rattle.std.proofs.lemmas.List.Kept.{AllPairs-cons}
use Rattle.std.proofs.lemmas.Option.{none-some, same_Some}
use Rattle.hierarchy.proofs.ListLemmas.{all_map}
use Rattle.geda_defs.specs.Order.{is_equal, once_in_order}
use Rattle.geda_defs.proofs.OnceLaws.{is_once_in_order}
use Rattle.net_names.proofs.PlaceLemmas.{found, is_there as in_list}

-- each stands in the relation to each later one
abbrev pub Apart : {X : Type 0} → (X → X → Type 0) → List X → Type 0
Apart R [] = Unit {0}
Apart R (x ∷ xs) = All (R x) xs × Apart R xs

pub as_pairs : {X : Type 0} (R : X → X → Type 0) (xs : List X) → Apart R xs → AllPairs R xs
as_pairs R [] a = λ i j d low high. absurd (omega (arith, low, high))
as_pairs R (x ∷ xs) a = AllPairs-cons R x xs a.0 (as_pairs R xs a.1)

pub apart_append : {X : Type 0} (R : X → X → Type 0) (xs ys : List X) → Apart R xs → Apart R ys → All (λ x. All (R x) ys) xs → Apart R (xs ++ ys)
apart_append R [] ys a b c = b
apart_append {X} R (x ∷ xs) ys a b c =
    let later : X → Type 0 = λ x. All (R x) ys in
    (All-append (R x) xs ys a.0 (All-head later x xs c), apart_append R xs ys a.1 b (All-tail later x xs c))

pub apart_map : {X Y : Type 0} (R : Y → Y → Type 0) (f : X → Y) (xs : List X) → Apart (λ a b. R (f a) (f b)) xs → Apart R (map f xs)
apart_map R f [] a = tt
apart_map R f (x ∷ xs) a = (all_map (R (f x)) f xs a.0, apart_map R f xs a.1)

pub apart_weaker : {X : Type 0} (R S : X → X → Type 0) → ((a b : X) → R a b → S a b) → (xs : List X) → Apart R xs → Apart S xs
apart_weaker R S to [] a = tt
apart_weaker R S to (x ∷ xs) a = (All-weaker (R x) (S x) (to x) xs a.0, apart_weaker R S to xs a.1)

-- all of one list stand in the relation to all of another
pub all_cross : {X : Type 0} (P Q : X → Type 0) (R : X → X → Type 0) → ((a b : X) → P a → Q b → R a b) → (xs ys : List X)
    → All P xs → All Q ys → All (λ x. All (R x) ys) xs
all_cross P Q R to xs ys all also = All-weaker P (λ x. All (R x) ys) (λ a p. All-weaker Q (R a) (λ b q. to a b p q) ys also) xs all

-- what passes a filter was there, and passes
pub of_filter : {X : Type 0} (test : X → Bool) (xs : List X) (x : X) → Contains (filter test xs) x → Contains xs x × (test x ≡ true)
of_filter test xs x c = (
  All-contains (Contains xs) (filter test xs) x (All-filter test (Contains xs) xs (All-contains_itself xs)) c,
  All-contains (λ y. test y ≡ true) (filter test xs) x (filter_passes test xs) c,
)

some_there : {X : Type 0} (o : Option X) → IsSome o → (x : X) × (o ≡ Some x)
some_there None e = absurd (true≢false (sym e))
some_there (Some x) e = (x, refl)

is_tied : (r : Ordering) → is_eq r ≡ true → r ≡ Equal
is_tied Less e = absurd (true≢false (sym e))
is_tied Equal e = refl
is_tied Greater e = absurd (true≢false (sym e))

module _ {K : Type 0} {cmp : K → K → Ordering} (o : IsTotalOrder cmp) where
  -- what is listed in order was given
  pub once_given : (xs : List K) (x : K) → Contains (once_in_order cmp xs) x → Contains xs x
  once_given xs x c =
      let first = All-contains (λ (y : K). find (is_equal cmp y) xs ≡ Some y) (once_in_order cmp xs) x (is_once_in_order o xs).first c in
      (found (is_equal cmp x) xs x first).0

  -- one that equals each given one is listed
  pub once_listed : (xs : List K) (x : K) → Contains xs x → (y : K) × Contains (once_in_order cmp xs) y × (cmp x y ≡ Equal)
  once_listed xs x c =
      let listed = once_in_order cmp xs in
      let each = All-contains (λ (z : K). IsSome (find (is_equal cmp z) listed)) xs x (is_once_in_order o xs).each c in
      let y = some_there (find (is_equal cmp x) listed) each in
      let is = found (is_equal cmp x) listed y.0 y.1 in
      (y.0, is.0, is_tied (cmp x y.0) is.1)

  -- so is each given one, where equal ones are the same
  pub once_keeps : (xs : List K) → ((x y : K) → Contains xs x → Contains xs y → cmp x y ≡ Equal → x ≡ y) → (x : K) → Contains xs x
      → Contains (once_in_order cmp xs) x
  once_keeps xs same x c =
      let y = once_listed xs x c in
      subst (λ (z : K). Contains (once_in_order cmp xs) z) (sym (same x y.0 c (once_given xs y.0 y.1) y.2)) y.1

  -- each is below each later one
  rising : (xs : List K) → IsStrictlySortedBy cmp xs → Apart (λ x y. cmp x y ≡ Less) xs
  unfolding IsStrictlySortedBy
  rising [] s = tt
  rising (x ∷ xs) s = (All-from_recursion (λ y. cmp x y ≡ Less) xs s.0, rising xs s.1)

  pub once_rises : (xs : List K) → Apart (λ x y. cmp x y ≡ Less) (once_in_order cmp xs)
  once_rises xs = rising (once_in_order cmp xs) (is_once_in_order o xs).rising

  -- what is below another is not the same
  pub below_differs : (x y : K) → cmp x y ≡ Less → x ≢ y
  below_differs x y less same =
      let tie : cmp x y ≡ Equal = ap (cmp x) (sym same) ∙ tied_itself o x in
      let e : Less ≡ Equal = sym less ∙ tie in
      cc

-- keys by what they map to are put in order before they are mapped
insert_map : {K L : Type 0} (cmp : L → L → Ordering) (f : K → L) (ks : List K) (k : K)
    → insert_key cmp (map f ks) (f k) ≡ map f (insert_key (on f cmp) ks k)
insert_map cmp f [] k = refl
insert_map cmp f (x ∷ ks) k = by (cmp (f k) (f x)) (insert_map cmp f ks k)
  where
    by : (r : Ordering) → insert_key cmp (map f ks) (f k) ≡ map f (insert_key (on f cmp) ks k)
        → match_ordering r (f k ∷ f x ∷ map f ks) (f x ∷ map f ks) (f x ∷ insert_key cmp (map f ks) (f k))
        ≡ map f (match_ordering r (k ∷ x ∷ ks) (x ∷ ks) (x ∷ insert_key (on f cmp) ks k))
    by Less h = refl
    by Equal h = refl
    by Greater h = ap (λ rest. f x ∷ rest) h

fold_map : {K L : Type 0} (cmp : L → L → Ordering) (f : K → L) (ks xs : List K)
    → fold (insert_key cmp) (map f ks) (map f xs) ≡ map f (fold (insert_key (on f cmp)) ks xs)
fold_map cmp f ks [] = refl
fold_map cmp f ks (x ∷ xs) = ap (λ rest. fold (insert_key cmp) rest (map f xs)) (insert_map cmp f ks x) ∙ fold_map cmp f (insert_key (on f cmp) ks x) xs

pub once_map : {K L : Type 0} (cmp : L → L → Ordering) (f : K → L) (xs : List K) → once_in_order cmp (map f xs) ≡ map f (once_in_order (on f cmp) xs)
once_map cmp f xs = fold_map cmp f [] xs

-- lists side by side
pub zip_append : {X Y : Type 0} (R : X → Y → Type 0) (xs us : List X) (ys vs : List Y)
    → AllZip R xs ys → AllZip R us vs → AllZip R (xs ++ us) (ys ++ vs)
zip_append R [] us [] vs a b = b
zip_append R [] us (y ∷ ys) vs a b = absurd a
zip_append R (x ∷ xs) us [] vs a b = absurd a
zip_append R (x ∷ xs) us (y ∷ ys) vs a b = (a.0, zip_append R xs us ys vs a.1 b)

-- what stands beside another at a place
pub zip_first : {X Y : Type 0} (R : X → Y → Type 0) (xs : List X) (ys : List Y) (k : ℕ) (y : Y) → AllZip R xs ys → slice_get ys k ≡ Some y
    → (x : X) × (slice_get xs k ≡ Some x) × R x y
zip_first R [] [] k y a e = absurd (none-some y e)
zip_first R [] (v ∷ ys) k y a e = absurd a
zip_first R (x ∷ xs) [] k y a e = absurd a
zip_first {Y = Y} R (x ∷ xs) (v ∷ ys) zero y a e = (x, refl, subst (λ (z : Y). R x z) (same_Some v y e) a.0)
zip_first R (x ∷ xs) (v ∷ ys) (suc k) y a e = zip_first R xs ys k y a.1 e

pub zip_second : {X Y : Type 0} (R : X → Y → Type 0) (xs : List X) (ys : List Y) (k : ℕ) (x : X) → AllZip R xs ys → slice_get xs k ≡ Some x
    → (y : Y) × (slice_get ys k ≡ Some y) × R x y
zip_second R [] [] k x a e = absurd (none-some x e)
zip_second R [] (y ∷ ys) k x a e = absurd a
zip_second R (u ∷ xs) [] k x a e = absurd a
zip_second {X = X} R (u ∷ xs) (y ∷ ys) zero x a e = (y, refl, subst (λ (z : X). R z y) (same_Some u x e) a.0)
zip_second R (u ∷ xs) (y ∷ ys) (suc k) x a e = zip_second R xs ys k x a.1 e

-- where no two are the same, what stands at two places stands at one
pub one_place : {X : Type 0} (xs : List X) (i j : ℕ) (x : X) → Apart ◌≢◌ xs → slice_get xs i ≡ Some x → slice_get xs j ≡ Some x → i ≡ j
one_place [] i j x a e f = absurd (none-some x e)
one_place (y ∷ xs) zero zero x a e f = refl
one_place (y ∷ xs) zero (suc j) x a e f = absurd (All-contains (λ z. y ≢ z) xs x a.0 (in_list xs j x f) (same_Some y x e))
one_place (y ∷ xs) (suc i) zero x a e f = absurd (All-contains (λ z. y ≢ z) xs x a.0 (in_list xs i x e) (same_Some y x f))
one_place (y ∷ xs) (suc i) (suc j) x a e f = ap suc (one_place xs i j x a.1 e f)
