-- What `once_in_order` gives, in a total order.
use Rattle.std.proofs.Common.{◌≡◌, Bool, true, false, cond, List, [], ◌∷◌, Option, Some, None, Ordering, fold, refl, sym, ap, ◌∙◌}
use Rattle.std.specs.Prelude.{IsSome, not, ◌&&◌, filter, slice_get}
use Rattle.std.specs.declared.cmp.Ordering.TheVariants.{Less, Equal, Greater}
use Rattle.std.specs.Ordering.{eq_by_cmp, is_eq, is_lt, match_ordering, ordering_reverse}
use Rattle.std.specs.Option.{option_or}
use Rattle.std.specs.List.{find, AllByRecursion, dedup, dedup_from}
use Rattle.std.specs.List.Retain.{IsFiltered, DiffersFromLast}
use Rattle.std.specs.List.Sorted.{IsStrictlySortedBy, IsSorted, IsStable, ties}
use Rattle.std.specs.Cmp.{IsTotalOrder, tied_itself}
use Rattle.std.specs.BTreeSet.{insert_key}
use Rattle.std.proofs.lemmas.List.Elements.{All-from_recursion}
use Rattle.std.proofs.lemmas.List.Filters.{dedup_is}
use Rattle.std.proofs.lemmas.List.Kept.{IsStrictlySortedBy-dedup}
use Rattle.geda_defs.specs.Order.{once_in_order, is_equal, IsOnceInOrder}

pub option_or-none : {A : Type 0} (a : Option A) → option_or a None ≡ a
option_or-none None = refl
option_or-none (Some x) = refl

pub option_or-assoc : {A : Type 0} (a b c : Option A) → option_or (option_or a b) c ≡ option_or a (option_or b c)
option_or-assoc None b c = refl
option_or-assoc (Some x) b c = refl

pub one_of : {A : Type 0} (b : Bool) (x : A) (f : Option A) → option_or (cond b (Some x) None) f ≡ cond b (Some x) f
one_of true x f = refl
one_of false x f = refl

module _ {K : Type 0} {cmp : K → K → Ordering} (o : IsTotalOrder cmp) where
  -- each is below those after it
  abbrev Ascends : List K → Type 0
  Ascends [] = Unit {0}
  Ascends (x ∷ xs) = AllByRecursion (λ y. cmp x y ≡ Less) xs × Ascends xs

  as_sorted : (xs : List K) → Ascends xs → IsStrictlySortedBy cmp xs
  unfolding IsStrictlySortedBy
  as_sorted [] s = tt
  as_sorted (x ∷ xs) s = (s.0, as_sorted xs s.1)

  above : (x k : K) → cmp k x ≡ Greater → cmp x k ≡ Less
  above x k e = o.antisymm x k ∙ ap ordering_reverse e

  below : (x k : K) → cmp k x ≡ Less → cmp x k ≡ Greater
  below x k e = o.antisymm x k ∙ ap ordering_reverse e

  below_all : (k x : K) (xs : List K) → cmp k x ≡ Less → AllByRecursion (λ y. cmp x y ≡ Less) xs → AllByRecursion (λ y. cmp k y ≡ Less) xs
  below_all k x [] e a = tt
  below_all k x (y ∷ ys) e a = (o.trans k x y e a.0, below_all k x ys e a.1)

  -- what is below a key and all keys stays below all with that key among them
  below_insert : (x k : K) (xs : List K) → cmp x k ≡ Less → AllByRecursion (λ y. cmp x y ≡ Less) xs → AllByRecursion (λ y. cmp x y ≡ Less) (insert_key cmp xs k)
  below_insert x k [] e a = (e, tt)
  below_insert x k (y ∷ ys) e a = by (cmp k y) (below_insert x k ys e a.1)
    where
      by : (r : Ordering) → AllByRecursion (λ z. cmp x z ≡ Less) (insert_key cmp ys k) → AllByRecursion (λ z. cmp x z ≡ Less) (match_ordering r (k ∷ y ∷ ys) (y ∷ ys) (y ∷ insert_key cmp ys k))
      by Less h = (e, a)
      by Equal h = a
      by Greater h = (a.0, h)

  ascends_insert : (xs : List K) (k : K) → Ascends xs → Ascends (insert_key cmp xs k)
  ascends_insert [] k s = (tt, tt)
  ascends_insert (x ∷ xs) k s = by (cmp k x) refl (ascends_insert xs k s.1)
    where
      by : (r : Ordering) → cmp k x ≡ r → Ascends (insert_key cmp xs k) → Ascends (match_ordering r (k ∷ x ∷ xs) (x ∷ xs) (x ∷ insert_key cmp xs k))
      by Less e h = ((e, below_all k x xs e s.0), s)
      by Equal e h = s
      by Greater e h = (below_insert x k xs (above x k e) s.0, h)

  -- no key above k equals what equals k
  none_equal : (q k : K) (xs : List K) → cmp q k ≡ Equal → AllByRecursion (λ y. cmp k y ≡ Less) xs → find (is_equal cmp q) xs ≡ None
  none_equal q k [] e a = refl
  none_equal q k (y ∷ ys) e a = rw (o.congr q k y e, a.0) (none_equal q k ys e a.1)

  before : (q k x : K) (xs : List K) → cmp k x ≡ Less → AllByRecursion (λ y. cmp x y ≡ Less) xs → (r : Ordering) → cmp q k ≡ r
      → cond (is_eq r) (Some k) (find (is_equal cmp q) (x ∷ xs)) ≡ option_or (find (is_equal cmp q) (x ∷ xs)) (cond (is_eq r) (Some k) None)
  before q k x xs e a Less f = sym (option_or-none _)
  before q k x xs e a Greater f = sym (option_or-none _)
  before q k x xs e a Equal f = rw (none_equal q k (x ∷ xs) f (e, below_all k x xs e a)) refl

  beside : (q k x : K) (xs : List K) → cmp k x ≡ Equal → (r : Ordering) → cmp q k ≡ r
      → find (is_equal cmp q) (x ∷ xs) ≡ option_or (find (is_equal cmp q) (x ∷ xs)) (cond (is_eq r) (Some k) None)
  beside q k x xs e Less f = sym (option_or-none _)
  beside q k x xs e Greater f = sym (option_or-none _)
  beside q k x xs e Equal f = rw (o.congr q k x f, e) refl

  behind : (b : Bool) (x : K) (f g z : Option K) → f ≡ option_or g z → cond b (Some x) f ≡ option_or (cond b (Some x) g) z
  behind true x f g z e = refl
  behind false x f g z e = e

  -- a key that is put in is found where none equalled it before
  find_insert : (q : K) (xs : List K) (k : K) → Ascends xs → find (is_equal cmp q) (insert_key cmp xs k) ≡ option_or (find (is_equal cmp q) xs) (find (is_equal cmp q) (k ∷ []))
  find_insert q [] k s = refl
  find_insert q (x ∷ xs) k s = by (cmp k x) refl (find_insert q xs k s.1)
    where
      by : (r : Ordering) → cmp k x ≡ r → find (is_equal cmp q) (insert_key cmp xs k) ≡ option_or (find (is_equal cmp q) xs) (find (is_equal cmp q) (k ∷ []))
          → find (is_equal cmp q) (match_ordering r (k ∷ x ∷ xs) (x ∷ xs) (x ∷ insert_key cmp xs k)) ≡ option_or (find (is_equal cmp q) (x ∷ xs)) (find (is_equal cmp q) (k ∷ []))
      by Less e h = before q k x xs e s.0 (cmp q k) refl
      by Equal e h = beside q k x xs e (cmp q k) refl
      by Greater e h = behind (is_eq (cmp q x)) x _ _ _ h

  ascends_fold : (ks xs : List K) → Ascends ks → Ascends (fold (insert_key cmp) ks xs)
  ascends_fold ks [] s = s
  ascends_fold ks (x ∷ xs) s = ascends_fold (insert_key cmp ks x) xs (ascends_insert ks x s)

  find_fold : (q : K) (ks xs : List K) → Ascends ks → find (is_equal cmp q) (fold (insert_key cmp) ks xs) ≡ option_or (find (is_equal cmp q) ks) (find (is_equal cmp q) xs)
  find_fold q ks [] s = sym (option_or-none _)
  find_fold q ks (x ∷ xs) s =
      find_fold q (insert_key cmp ks x) xs (ascends_insert ks x s)
      ∙ ap (λ (f : Option K). option_or f (find (is_equal cmp q) xs)) (find_insert q ks x s)
      ∙ option_or-assoc (find (is_equal cmp q) ks) (find (is_equal cmp q) (x ∷ [])) (find (is_equal cmp q) xs)
      ∙ ap (option_or (find (is_equal cmp q) ks)) (one_of (is_eq (cmp q x)) x (find (is_equal cmp q) xs))

  -- what equals a key in the list that is made is the first that equals it among the given ones
  pub find_once : (q : K) (xs : List K) → find (is_equal cmp q) (once_in_order cmp xs) ≡ find (is_equal cmp q) xs
  find_once q xs = find_fold q [] xs tt

  found_or : (b : Bool) (x : K) (f : Option K) → IsSome f → IsSome (cond b (Some x) f)
  found_or true x f h = refl
  found_or false x f h = h

  found_past : (x : K) (xs ys : List K) → AllByRecursion (λ y. IsSome (find (is_equal cmp y) xs)) ys → AllByRecursion (λ y. IsSome (find (is_equal cmp y) (x ∷ xs))) ys
  found_past x xs [] a = tt
  found_past x xs (y ∷ ys) a = (found_or (is_eq (cmp y x)) x _ a.0, found_past x xs ys a.1)

  -- each of a list equals one of it
  each_found : (xs : List K) → AllByRecursion (λ x. IsSome (find (is_equal cmp x) xs)) xs
  each_found [] = tt
  each_found (x ∷ xs) = (rw (tied_itself o x) refl, found_past x xs xs (each_found xs))

  first_past : (x : K) (xs ys : List K) → AllByRecursion (λ y. cmp x y ≡ Less) ys → AllByRecursion (λ y. find (is_equal cmp y) xs ≡ Some y) ys → AllByRecursion (λ y. find (is_equal cmp y) (x ∷ xs) ≡ Some y) ys
  first_past x xs [] a b = tt
  first_past x xs (y ∷ ys) a b = (rw (below y x a.0) b.0, first_past x xs ys a.1 b.1)

  -- where each is below those after it, each is found as itself
  each_first : (xs : List K) → Ascends xs → AllByRecursion (λ x. find (is_equal cmp x) xs ≡ Some x) xs
  each_first [] s = tt
  each_first (x ∷ xs) s = (rw (tied_itself o x) refl, first_past x xs xs s.0 (each_first xs s.1))

  moved : {P Q : K → Type 0} → ((x : K) → P x → Q x) → (xs : List K) → AllByRecursion P xs → AllByRecursion Q xs
  moved to [] a = tt
  moved to (x ∷ xs) a = (to x a.0, moved to xs a.1)

  pub is_once_in_order : (xs : List K) → IsOnceInOrder cmp xs (once_in_order cmp xs)
  is_once_in_order xs =
      let listed = once_in_order cmp xs in
      let up = ascends_fold [] xs tt in
      record {
        rising = as_sorted listed up;
        each = All-from_recursion (λ x. IsSome (find (is_equal cmp x) listed)) xs (moved (λ x h. rw (find_once x xs) h) xs (each_found xs));
        first = All-from_recursion (λ y. find (is_equal cmp y) xs ≡ Some y) listed (moved (λ y h. sym (find_once y xs) ∙ h) listed (each_first listed up));
      }

  -- nothing above a key equals it
  none_above : (q : K) (xs : List K) → AllByRecursion (λ y. cmp q y ≡ Less) xs → find (is_equal cmp q) xs ≡ None
  none_above q [] a = refl
  none_above q (x ∷ xs) a = rw a.0 (none_above q xs a.1)

  found_first : (q : K) (xs : List K) → find (is_equal cmp q) (q ∷ xs) ≡ Some q
  found_first q xs = rw (tied_itself o q) refl

  -- the first of a list is found in no list that begins above it
  not_below : (x y : K) (xs ys : List K) → cmp x y ≡ Less → Ascends (y ∷ ys) → find (is_equal cmp x) (x ∷ xs) ≡ find (is_equal cmp x) (y ∷ ys) → ⊥
  not_below x y xs ys e s f =
      let none = none_above x (y ∷ ys) (e, below_all x y ys e s.0) in
      let g : Some x ≡ None = sym (found_first x xs) ∙ f ∙ none in
      cc

  -- what is found behind the first key is found in the whole list, but for what equals that key
  past_first : (q x : K) (xs : List K) → AllByRecursion (λ y. cmp x y ≡ Less) xs → (r : Ordering) → cmp q x ≡ r
      → find (is_equal cmp q) xs ≡ cond (is_eq (cmp q x)) None (find (is_equal cmp q) (x ∷ xs))
  past_first q x xs a Equal e = rw e (none_equal q x xs e a)
  past_first q x xs a Less e = rw e refl
  past_first q x xs a Greater e = rw e refl

  ascends_same : (xs ys : List K) → Ascends xs → Ascends ys → ((q : K) → find (is_equal cmp q) xs ≡ find (is_equal cmp q) ys) → xs ≡ ys
  ascends_same [] [] s t h = refl
  ascends_same [] (y ∷ ys) s t h = absurd (let e : None ≡ Some y = h y ∙ found_first y ys in cc)
  ascends_same (x ∷ xs) [] s t h = absurd (let e : Some x ≡ None = sym (found_first x xs) ∙ h x in cc)
  ascends_same (x ∷ xs) (y ∷ ys) s t h = by (cmp x y) refl (ascends_same xs ys s.1 t.1)
    where
      by : (r : Ordering) → cmp x y ≡ r → (((q : K) → find (is_equal cmp q) xs ≡ find (is_equal cmp q) ys) → xs ≡ ys) → x ∷ xs ≡ y ∷ ys
      by Less e rest = absurd (not_below x y xs ys e t (h x))
      by Greater e rest = absurd (not_below y x ys xs (above y x e) s (sym (h y)))
      by Equal e rest =
          let found : find (is_equal cmp x) (y ∷ ys) ≡ Some y = rw e refl in
          let both : Some x ≡ Some y = sym (found_first x xs) ∙ h x ∙ found in
          let one : x ≡ y = cc in
          let later : (q : K) → find (is_equal cmp q) xs ≡ find (is_equal cmp q) ys = λ q.
          past_first q x xs s.0 (cmp q x) refl
          ∙ ap (λ (f : Option K). cond (is_eq (cmp q x)) None f) (h q)
          ∙ ap (λ (z : K). cond (is_eq (cmp q z)) None (find (is_equal cmp q) (y ∷ ys))) one
          ∙ sym (past_first q y ys t.0 (cmp q y) refl) in
          ap (λ (z : K). z ∷ xs) one ∙ ap (λ (zs : List K). y ∷ zs) (rest later)

  -- two equal keys compare alike
  pub same_side : (q x k : K) → cmp x k ≡ Equal → cmp q x ≡ cmp q k
  same_side q x k e = o.antisymm q x ∙ ap ordering_reverse (o.congr x k q e) ∙ sym (o.antisymm q k)

  -- a key that equals the one before it is not the first to be found
  passed_by : (q k x : K) (f : Option K) (r : Ordering) → cmp q k ≡ r → cmp q x ≡ r
      → cond (is_eq (cmp q k)) (Some k) f ≡ cond (is_eq (cmp q k)) (Some k) (cond (is_eq (cmp q x)) (Some x) f)
  passed_by q k x f Less e g = rw (e, g) refl
  passed_by q k x f Equal e g = rw e refl
  passed_by q k x f Greater e g = rw (e, g) refl

  find_dedup_from : (q k : K) (xs : List K) → find (is_equal cmp q) (dedup_from (eq_by_cmp cmp) k xs) ≡ find (is_equal cmp q) (k ∷ xs)
  find_dedup_from q k [] = refl
  find_dedup_from q k (x ∷ xs) = by (cmp x k) refl (find_dedup_from q k xs) (find_dedup_from q x xs)
    where
      by : (r : Ordering) → cmp x k ≡ r
          → find (is_equal cmp q) (dedup_from (eq_by_cmp cmp) k xs) ≡ find (is_equal cmp q) (k ∷ xs)
          → find (is_equal cmp q) (dedup_from (eq_by_cmp cmp) x xs) ≡ find (is_equal cmp q) (x ∷ xs)
          → find (is_equal cmp q) (cond (is_eq r) (dedup_from (eq_by_cmp cmp) k xs) (k ∷ dedup_from (eq_by_cmp cmp) x xs)) ≡ find (is_equal cmp q) (k ∷ x ∷ xs)
      by Less e g h = ap (λ (f : Option K). cond (is_eq (cmp q k)) (Some k) f) h
      by Greater e g h = ap (λ (f : Option K). cond (is_eq (cmp q k)) (Some k) f) h
      by Equal e g h = g ∙ passed_by q k x (find (is_equal cmp q) xs) (cmp q k) refl (same_side q x k e)

  -- what is found is found where equals after the first are left out
  pub find_dedup : (q : K) (xs : List K) → find (is_equal cmp q) (dedup (eq_by_cmp cmp) xs) ≡ find (is_equal cmp q) xs
  find_dedup q [] = refl
  find_dedup q (x ∷ xs) = find_dedup_from q x xs

  -- to tie with a key is to equal it
  tie_equal : (q y : K) → ties (λ (a b : K). is_lt (cmp a b)) q y ≡ is_equal cmp q y
  tie_equal q y = ap (λ (r : Ordering). not (is_lt (cmp q y)) && not (is_lt r)) (o.antisymm y q) ∙ by (cmp q y)
    where
      by : (r : Ordering) → (not (is_lt r) && not (is_lt (ordering_reverse r))) ≡ is_eq r
      by Less = refl
      by Equal = refl
      by Greater = refl

  -- what is found is the first of what ties
  find_tied : (q : K) (xs : List K) → find (is_equal cmp q) xs ≡ slice_get (filter (ties (λ (a b : K). is_lt (cmp a b)) q) xs) 0
  find_tied q [] = refl
  find_tied q (x ∷ xs) = by (is_equal cmp q x) _ (tie_equal q x) _ _ (find_tied q xs)
    where
      by : (b d : Bool) → d ≡ b → (f : Option K) (ks : List K) → f ≡ slice_get ks 0 → cond b (Some x) f ≡ slice_get (cond d (x ∷ ks) ks) 0
      by true d e f ks h = rw e refl
      by false d e f ks h = rw e h

  rises : (xs : List K) → IsStrictlySortedBy cmp xs → Ascends xs
  unfolding IsStrictlySortedBy
  rises [] s = tt
  rises (x ∷ xs) s = (s.0, rises xs s.1)

  -- two rising lists in which the same keys are found are one list
  pub same_found : (xs ys : List K) → IsStrictlySortedBy cmp xs → IsStrictlySortedBy cmp ys → ((q : K) → find (is_equal cmp q) xs ≡ find (is_equal cmp q) ys) → xs ≡ ys
  same_found xs ys s t h = ascends_same xs ys (rises xs s) (rises ys t) h

  same_dedup_from : (same : K → K → Bool) → ((x y : K) → same x y ≡ eq_by_cmp cmp x y) → (k : K) (xs : List K) → dedup_from same k xs ≡ dedup_from (eq_by_cmp cmp) k xs
  same_dedup_from same agree k [] = refl
  same_dedup_from same agree k (x ∷ xs) = rw (agree x k, same_dedup_from same agree k xs, same_dedup_from same agree x xs) refl

  same_dedup : (same : K → K → Bool) → ((x y : K) → same x y ≡ eq_by_cmp cmp x y) → (xs : List K) → dedup same xs ≡ dedup (eq_by_cmp cmp) xs
  same_dedup same agree [] = refl
  same_dedup same agree (x ∷ xs) = same_dedup_from same agree x xs

  -- a list that is sorted stably, of which equals after the first are left out
  pub once_from_sort : (same : K → K → Bool) → ((x y : K) → same x y ≡ eq_by_cmp cmp x y)
      → (xs ys zs : List K) → IsSorted cmp ys → IsStable cmp xs ys → IsFiltered (DiffersFromLast same) [] ys zs → zs ≡ once_in_order cmp xs
  once_from_sort same agree xs ys zs sorted stable left =
      let once = dedup (eq_by_cmp cmp) ys in
      let first : (q : K) → find (is_equal cmp q) ys ≡ find (is_equal cmp q) xs = λ q.
      find_tied q ys ∙ ap (λ (ks : List K). slice_get ks 0) (stable q) ∙ sym (find_tied q xs) in
      dedup_is same ys zs left
      ∙ same_dedup same agree ys
      ∙ same_found once (once_in_order cmp xs)
      (IsStrictlySortedBy-dedup o (λ _ _. refl) ys sorted)
      (is_once_in_order xs).rising
      (λ q. find_dedup q ys ∙ first q ∙ sym (find_once q xs))
