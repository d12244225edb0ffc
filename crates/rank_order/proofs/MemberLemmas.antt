-- A list that is put in order by a first key, and by a second one where the first is equal, has the
-- members of each of its parts in order.
use Rattle.std.proofs.Common.{◌≡◌, ℕ, zero, suc, ◌+◌, ◌<◌, ◌&&◌, Bool, true, false, cond, List, [], ◌∷◌, length, map, get_or, Option, Some, None, Ordering, fold, refl, sym, ap, subst, ◌∙◌, arith}
use Rattle.std.specs.Prelude.{All, filter, slice_index_or}
use Rattle.std.specs.declared.cmp.Ordering.TheVariants.{Less, Equal, Greater}
use Rattle.std.specs.Ordering.{eq_by_cmp, is_eq, match_ordering, ordering_reverse, ordering_then, then_cmp}
use Rattle.std.specs.Option.{option_or}
use Rattle.std.specs.List.{find, dedup, dedup_from, range_with_len, AllByRecursion}
use Rattle.std.specs.List.Sorted.{IsStrictlySortedBy}
use Rattle.std.specs.Cmp.{IsTotalOrder, then_total}
use Rattle.std.specs.BTreeSet.{insert_key}
use Rattle.geda_defs.specs.Order.{once_in_order, is_equal}
use Rattle.geda_defs.proofs.OnceLaws.{find_dedup, is_once_in_order, one_of, option_or-none, option_or-assoc}
use Rattle.rank_order.specs.Ranks.{by_rank, in_order}
use Rattle.rank_order.proofs.OrderLemmas.{all_insert, all_moved, all_once, once_agrees, once_is}
use Rattle.std.proofs.lemmas.List.Elements.{All-from_recursion}

-- all of a list by their places
pub by_places : {A : Type 0} (d : A) (xs : List A) → map (λ i. get_or xs i d) (range_with_len 0 (length xs)) ≡ xs
by_places {A} d xs = go 0 xs (λ i. get_or xs i d) (λ j h. ap (λ i. get_or xs i d) (let e : 0 + j ≡ j = omega arith in e))
  where
    go : (s : ℕ) (ys : List A) (f : ℕ → A) → ((j : ℕ) → j < length ys → f (s + j) ≡ get_or ys j d) → map f (range_with_len s (length ys)) ≡ ys
    go s [] f h = refl
    go s (y ∷ ys) f h =
        let first : f s ≡ y = ap f (let e : s ≡ s + 0 = omega arith in e) ∙ h 0 (omega arith) in
        let rest = go (s + 1) ys f (λ j lt. ap f (let e : (s + 1) + j ≡ s + suc j = omega arith in e) ∙ h (suc j) (omega (arith, lt))) in
        ap (λ (x : A). x ∷ map f (range_with_len (s + 1) (length ys))) first ∙ ap (λ (zs : List A). y ∷ zs) rest

-- all below a stop
pub below_stop : (s n : ℕ) → AllByRecursion (λ i. i < s + n) (range_with_len s n)
below_stop s zero = tt
below_stop s (suc n) = (omega arith, all_moved (λ i. i < (s + 1) + n) (λ i. i < s + suc n) (λ i h. omega (arith, h)) (range_with_len (s + 1) n) (below_stop (s + 1) n))

-- where the order of ranks and keys is that of the members, places in order are members in order
pub ranked_in_order : {A K : Type 0} (d : A) (xs : List A) (cmp : A → A → Ordering) (ranks : List ℕ) (keys : List K) (by_key : K → K → Ordering) → length ranks ≡ length xs
    → ((i j : ℕ) → i < length xs → j < length xs → by_rank ranks by_key keys i j ≡ cmp (slice_index_or xs i d) (slice_index_or xs j d))
    → map (λ i. slice_index_or xs i d) (in_order ranks by_key keys) ≡ once_in_order cmp xs
ranked_in_order {A} d xs cmp ranks keys by_key len agree =
    let n = length xs in
    let stop : 0 + n ≡ n = omega arith in
    ap (λ (m : ℕ). map (λ i. get_or xs i d) (once_in_order (by_rank ranks by_key keys) (range_with_len 0 m))) len
    ∙ once_agrees (λ i. i < n) (λ i. get_or xs i d) (by_rank ranks by_key keys) cmp (λ i j a b. agree i j a b) (range_with_len 0 n) (subst (λ (m : ℕ). AllByRecursion (λ i. i < m) (range_with_len 0 n)) stop (below_stop 0 n))
    ∙ ap (once_in_order cmp) (by_places d xs)

-- places in order are places
pub order_inside : {K : Type 0} (ranks : List ℕ) (by_key : K → K → Ordering) (keys : List K) → All (λ i. i < length ranks) (in_order ranks by_key keys)
order_inside ranks by_key keys =
    let n = length ranks in
    let stop : 0 + n ≡ n = omega arith in
    All-from_recursion (λ i. i < n) (in_order ranks by_key keys) (all_once (λ i. i < n) (by_rank ranks by_key keys) (range_with_len 0 n) (subst (λ (m : ℕ). AllByRecursion (λ i. i < m) (range_with_len 0 n)) stop (below_stop 0 n)))

all_dedup : {K : Type 0} (P : K → Type 0) (same : K → K → Bool) (k : K) (xs : List K) → P k → AllByRecursion P xs → AllByRecursion P (dedup_from same k xs)
all_dedup P same k [] h a = (h, tt)
all_dedup P same k (x ∷ xs) h a = by (same x k) (all_dedup P same k xs h a.1) (all_dedup P same x xs a.0 a.1)
  where
    by : (b : Bool) → AllByRecursion P (dedup_from same k xs) → AllByRecursion P (dedup_from same x xs) → AllByRecursion P (cond b (dedup_from same k xs) (k ∷ dedup_from same x xs))
    by true f g = f
    by false f g = (h, g)

pub all_filter : {K : Type 0} (P : K → Type 0) (p : K → Bool) (xs : List K) → AllByRecursion P xs → AllByRecursion P (filter p xs)
all_filter P p [] a = tt
all_filter P p (x ∷ xs) a = by (p x) (all_filter P p xs a.1)
  where
    by : (b : Bool) → AllByRecursion P (filter p xs) → AllByRecursion P (cond b (x ∷ filter p xs) (filter p xs))
    by true f = (a.0, f)
    by false f = f

module _ {K : Type 0} {cmp : K → K → Ordering} (o : IsTotalOrder cmp) where
  -- it is no greater
  abbrev IsUpTo : K → K → Type 0
  IsUpTo x y = cmp x y ≡ Greater → ⊥

  -- none is greater than one after it
  abbrev Climbs : List K → Type 0
  Climbs [] = Unit {0}
  Climbs (x ∷ xs) = AllByRecursion (IsUpTo x) xs × Climbs xs

  climbs_filter : (p : K → Bool) (xs : List K) → Climbs xs → Climbs (filter p xs)
  climbs_filter p [] c = tt
  climbs_filter p (x ∷ xs) c = by (p x) (climbs_filter p xs c.1)
    where
      by : (b : Bool) → Climbs (filter p xs) → Climbs (cond b (x ∷ filter p xs) (filter p xs))
      by true f = (all_filter (IsUpTo x) p xs c.0, f)
      by false f = f

  -- below one that is no greater than another is below that other one
  below_up : (k x y : K) → cmp k x ≡ Less → IsUpTo x y → cmp k y ≡ Less
  below_up k x y e h = by (cmp x y) refl
    where
      by : (r : Ordering) → cmp x y ≡ r → cmp k y ≡ Less
      by Less f = o.trans k x y e f
      by Equal f = o.antisymm k y ∙ ap ordering_reverse (sym (o.congr x y k f) ∙ (o.antisymm x k ∙ ap ordering_reverse e))
      by Greater f = absurd (h f)

  below_climb : (k x : K) (xs : List K) → cmp k x ≡ Less → AllByRecursion (IsUpTo x) xs → AllByRecursion (λ y. cmp k y ≡ Less) xs
  below_climb k x xs e a = all_moved (IsUpTo x) (λ y. cmp k y ≡ Less) (λ y h. below_up k x y e h) xs a

  abbrev same : K → K → Bool
  same = eq_by_cmp cmp

  -- of what climbs, equals after the first left out, each is below those after it
  strict_from : (k : K) (xs : List K) → AllByRecursion (IsUpTo k) xs → Climbs xs → IsStrictlySortedBy cmp (dedup_from same k xs)
  unfolding IsStrictlySortedBy
  strict_from k [] a c = (tt, tt)
  strict_from k (x ∷ xs) a c = by (cmp x k) refl (strict_from k xs a.1 c.1) (strict_from x xs c.0 c.1)
    where
      less : (cmp x k ≡ Equal → ⊥) → cmp k x ≡ Less
      less ne = turn (cmp k x) refl
        where
          turn : (s : Ordering) → cmp k x ≡ s → cmp k x ≡ Less
          turn Less f = f
          turn Equal f = absurd (ne (o.antisymm x k ∙ ap ordering_reverse f))
          turn Greater f = absurd (a.0 f)

      apart : (cmp x k ≡ Equal → ⊥) → IsStrictlySortedBy cmp (dedup_from same x xs) → IsStrictlySortedBy cmp (k ∷ dedup_from same x xs)
      apart ne g = (all_dedup (λ y. cmp k y ≡ Less) same x xs (less ne) (below_climb k x xs (less ne) c.0), g)

      by : (r : Ordering) → cmp x k ≡ r → IsStrictlySortedBy cmp (dedup_from same k xs) → IsStrictlySortedBy cmp (dedup_from same x xs)
          → IsStrictlySortedBy cmp (cond (is_eq r) (dedup_from same k xs) (k ∷ dedup_from same x xs))
      by Less e f g = apart (λ h. absurd (let i : Less ≡ Equal = sym e ∙ h in cc)) g
      by Greater e f g = apart (λ h. absurd (let i : Greater ≡ Equal = sym e ∙ h in cc)) g
      by Equal e f g = f

  strict_dedup : (xs : List K) → Climbs xs → IsStrictlySortedBy cmp (dedup same xs)
  unfolding IsStrictlySortedBy
  strict_dedup [] c = tt
  strict_dedup (x ∷ xs) c = strict_from x xs c.0 c.1

  module _ {tie : K → K → Ordering} (t : IsTotalOrder tie) (p : K → Bool) where
    abbrev fine : K → K → Ordering
    fine = then_cmp cmp tie

    up_to : (r s : Ordering) → ordering_then r s ≡ Less → r ≡ Greater → ⊥
    up_to Less s e f = let g : Less ≡ Greater = f in cc
    up_to Equal s e f = let g : Equal ≡ Greater = f in cc
    up_to Greater s e f = let g : Greater ≡ Less = e in cc

    climbs : (xs : List K) → IsStrictlySortedBy fine xs → Climbs xs
    unfolding IsStrictlySortedBy
    climbs [] s = tt
    climbs (x ∷ xs) s = (all_moved (λ y. fine x y ≡ Less) (IsUpTo x) (λ y e. up_to (cmp x y) (tie x y) e) xs s.0, climbs xs s.1)

    -- whether it passes and equals a key
    abbrev takes : K → K → Bool
    takes q x = p x && is_equal cmp q x

    find_filter : (q : K) (xs : List K) → find (is_equal cmp q) (filter p xs) ≡ find (takes q) xs
    find_filter q [] = refl
    find_filter q (x ∷ xs) = by (p x) (is_equal cmp q x) (find_filter q xs) refl
      where
        by : (b d : Bool) → find (is_equal cmp q) (filter p xs) ≡ find (takes q) xs → d ≡ is_equal cmp q x
            → find (is_equal cmp q) (cond b (x ∷ filter p xs) (filter p xs)) ≡ cond (b && d) (Some x) (find (takes q) xs)
        by true true h e = rw (sym e) refl
        by true false h e = rw (sym e) h
        by false d h e = h

    none_taken : (q k : K) (xs : List K) → cmp q k ≡ Equal → AllByRecursion (λ y. cmp k y ≡ Less) xs → find (takes q) xs ≡ None
    none_taken q k [] e a = refl
    none_taken q k (y ∷ ys) e a = rw (o.congr q k y e, a.0) (by (p y) (none_taken q k ys e a.1))
      where
        by : (b : Bool) → find (takes q) ys ≡ None → cond (b && false) (Some y) (find (takes q) ys) ≡ None
        by true h = h
        by false h = h

    taken_equal : (b : Bool) (r : Ordering) → (b && is_eq r) ≡ true → r ≡ Equal
    taken_equal true Equal e = refl
    taken_equal true Less e = absurd (let f : false ≡ true = e in cc)
    taken_equal true Greater e = absurd (let f : false ≡ true = e in cc)
    taken_equal false r e = absurd (let f : false ≡ true = e in cc)

    up_trans : (k x y : K) → IsUpTo k x → IsUpTo x y → IsUpTo k y
    up_trans k x y f g = by (cmp k x) refl
      where
        by : (r : Ordering) → cmp k x ≡ r → IsUpTo k y
        by Less e h = let i : Less ≡ Greater = sym (below_up k x y e g) ∙ h in cc
        by Equal e h = g (sym (o.congr k x y e) ∙ h)
        by Greater e h = f e

    up_all : (k x : K) (xs : List K) → IsUpTo k x → AllByRecursion (IsUpTo x) xs → AllByRecursion (IsUpTo k) xs
    up_all k x xs f a = all_moved (IsUpTo x) (IsUpTo k) (λ y g. up_trans k x y f g) xs a

    -- what is not below is above or beside
    turned : (k x : K) → fine k x ≡ Greater → IsUpTo x k
    turned k x e f = by (cmp k x) (tie k x) e (o.antisymm k x ∙ ap ordering_reverse f)
      where
        by : (r s : Ordering) → ordering_then r s ≡ Greater → r ≡ Less → ⊥
        by Less s e f = let g : Less ≡ Greater = e in cc
        by Equal s e f = let g : Equal ≡ Less = f in cc
        by Greater s e f = let g : Greater ≡ Less = f in cc

    climbs_insert : (ks : List K) (k : K) → Climbs ks → Climbs (insert_key fine ks k)
    climbs_insert [] k c = (tt, tt)
    climbs_insert (x ∷ ks) k c = by (fine k x) refl (climbs_insert ks k c.1)
      where
        by : (r : Ordering) → fine k x ≡ r → Climbs (insert_key fine ks k) → Climbs (match_ordering r (k ∷ x ∷ ks) (x ∷ ks) (x ∷ insert_key fine ks k))
        by Less e h = let up : IsUpTo k x = up_to (cmp k x) (tie k x) e in ((up, up_all k x ks up c.0), c)
        by Equal e h = c
        by Greater e h = (all_insert (IsUpTo x) fine ks k c.0 (turned k x e), h)

    behind : (b : Bool) (x : K) (f g z : Option K) → f ≡ option_or g z → cond b (Some x) f ≡ option_or (cond b (Some x) g) z
    behind true x f g z e = refl
    behind false x f g z e = e

    -- a key that is put in behind its ties is taken where none is taken before
    taken_insert : (q : K) (ks : List K) (k : K) → Climbs ks → AllByRecursion (λ x. tie x k ≡ Less) ks → find (takes q) (insert_key fine ks k) ≡ option_or (find (takes q) ks) (find (takes q) (k ∷ []))
    taken_insert q [] k c a = refl
    taken_insert q (x ∷ ks) k c a = by (cmp k x) refl (tie k x) (t.antisymm k x ∙ ap ordering_reverse a.0) (taken_insert q ks k c.1 a.1)
      where
        before : cmp k x ≡ Less → (b : Bool) → takes q k ≡ b → cond b (Some k) (find (takes q) (x ∷ ks)) ≡ option_or (find (takes q) (x ∷ ks)) (cond b (Some k) None)
        before e true f = rw (none_taken q k (x ∷ ks) (taken_equal (p k) (cmp q k) f) (e, below_climb k x ks e c.0)) refl
        before e false f = sym (option_or-none (find (takes q) (x ∷ ks)))

        by : (r : Ordering) → cmp k x ≡ r → (s : Ordering) → s ≡ Greater
            → find (takes q) (insert_key fine ks k) ≡ option_or (find (takes q) ks) (find (takes q) (k ∷ []))
            → find (takes q) (match_ordering (ordering_then r s) (k ∷ x ∷ ks) (x ∷ ks) (x ∷ insert_key fine ks k)) ≡ option_or (find (takes q) (x ∷ ks)) (find (takes q) (k ∷ []))
        by Less e s f h = before e (takes q k) refl
        by Equal e s f h = rw f (behind (takes q x) x _ _ _ h)
        by Greater e s f h = behind (takes q x) x _ _ _ h

    heads : (x : K) (xs ks : List K) → AllByRecursion (λ k. AllByRecursion (λ y. tie k y ≡ Less) (x ∷ xs)) ks → AllByRecursion (λ k. tie k x ≡ Less) ks
    heads x xs ks a = all_moved (λ k. AllByRecursion (λ y. tie k y ≡ Less) (x ∷ xs)) (λ k. tie k x ≡ Less) (λ k h. h.0) ks a

    tails : (x : K) (xs ks : List K) → AllByRecursion (λ k. AllByRecursion (λ y. tie k y ≡ Less) (x ∷ xs)) ks → AllByRecursion (λ k. AllByRecursion (λ y. tie k y ≡ Less) xs) ks
    tails x xs ks a = all_moved (λ k. AllByRecursion (λ y. tie k y ≡ Less) (x ∷ xs)) (λ k. AllByRecursion (λ y. tie k y ≡ Less) xs) (λ k h. h.1) ks a

    taken_fold : (q : K) (ks xs : List K) → Climbs ks → AllByRecursion (λ k. AllByRecursion (λ y. tie k y ≡ Less) xs) ks → IsStrictlySortedBy tie xs
        → find (takes q) (fold (insert_key fine) ks xs) ≡ option_or (find (takes q) ks) (find (takes q) xs)
    unfolding IsStrictlySortedBy
    taken_fold q ks [] c a s = sym (option_or-none (find (takes q) ks))
    taken_fold q ks (x ∷ xs) c a s =
        taken_fold q (insert_key fine ks x) xs (climbs_insert ks x c) (all_insert (λ k. AllByRecursion (λ y. tie k y ≡ Less) xs) fine ks x (tails x xs ks a) s.0) s.1
        ∙ ap (λ (f : Option K). option_or f (find (takes q) xs)) (taken_insert q ks x c (heads x xs ks a))
        ∙ option_or-assoc (find (takes q) ks) (find (takes q) (x ∷ [])) (find (takes q) xs)
        ∙ ap (option_or (find (takes q) ks)) (one_of (takes q x) x (find (takes q) xs))

    pub fine_total : IsTotalOrder fine
    fine_total = then_total o t

    -- the members of a part, in order, are those of all members in order that belong to it, of equal ones the first
    pub part_in_order : (xs : List K) → IsStrictlySortedBy tie xs → dedup same (filter p (once_in_order fine xs)) ≡ once_in_order cmp (filter p xs)
    part_in_order xs s =
        let ys = once_in_order fine xs in
        once_is o (filter p xs) (dedup same (filter p ys)) (strict_dedup (filter p ys) (climbs_filter p ys (climbs ys (is_once_in_order fine_total xs).rising)))
        (λ q. find_dedup o q (filter p ys) ∙ find_filter q ys ∙ taken_fold q [] xs tt tt s ∙ sym (find_filter q xs))
