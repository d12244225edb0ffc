-- Keys in order, each once, and their places among these.
use Rattle.std.proofs.Common.{◌≡◌, ◌⊎◌, ℕ, zero, suc, ◌+◌, ◌<◌, ◌≤◌, ◌==◌, Bool, true, false, cond, List, [], ◌∷◌, ◌++◌, length, map, drop, get_or, set, Option, Some, None, Ordering, refl, sym, ap, subst, ◌∙◌, arith, inl, inr}
use Rattle.std.specs.Prelude.{All, filter, slice_get, slice_index}
use Rattle.std.specs.declared.cmp.Ordering.TheVariants.{Less, Equal, Greater}
use Rattle.std.specs.Ordering.{is_eq, nat_cmp, on, ordering_reverse, ordering_then, then_cmp}
use Rattle.std.specs.Option.{option_cmp}
use Rattle.std.specs.List.{dedup, dedup_from, find, list_any, range_with_len, AllByRecursion}
use Rattle.std.specs.List.Sorted.{IsStrictlySortedBy}
use Rattle.std.specs.Cmp.{IsTotalOrder, tied_itself, on_total, then_total, nat_cmp_total}
use Rattle.std.specs.Cmp.Lexicographic.{options_total}
use Rattle.std.proofs.lemmas.Bool.{cases_eq, lt-ltb}
use Rattle.std.proofs.lemmas.List.{append_assoc, drop_more, drop_all, map_push, get_or-set_other, get_or-set_same}
use Rattle.std.proofs.lemmas.List.Elements.{All-from_recursion}
use Rattle.geda_defs.specs.Order.{once_in_order, is_equal}
use Rattle.geda_defs.proofs.OnceLaws.{find_once}
use Rattle.rank_order.specs.Ranks.{by_rank}
use Rattle.rank_order.specs.Chains.{Entry, Placed, entry_places, placed_at, seen}
use Rattle.rank_order.specs.Classes.{met, met_after}
use Rattle.rank_order.specs.Keys.{AreNumbers, AreRanks, IsInRun, IsRank, by_keys, run_with, same_key}
use Rattle.rank_order.proofs.OrderLemmas.{all_once, once_agrees}
use Rattle.rank_order.proofs.RankLemmas.{by_rank_total, entries_at, entries_read, found, has_range, range_more}
use Rattle.rank_order.proofs.MemberLemmas.{below_stop, by_places, part_in_order}

-- what stands behind a list
at_behind : {A : Type 0} (xs ys : List A) → slice_get (xs ++ ys) (length xs) ≡ slice_get ys 0
at_behind [] ys = refl
at_behind (x ∷ xs) ys = at_behind xs ys

length_behind : {A : Type 0} (xs : List A) (y : A) → length (xs ++ y ∷ []) ≡ length xs + 1
length_behind [] y = refl
length_behind (x ∷ xs) y = let h = length_behind xs y in omega (arith, h)

-- a list without repetitions begins with the first head
pub head_first : {A : Type 0} (same : A → A → Bool) (k : A) (xs : List A) → slice_get (dedup_from same k xs) 0 ≡ Some k
head_first same k [] = refl
head_first same k (x ∷ xs) = by (same x k) (head_first same k xs)
  where
    by : (b : Bool) → slice_get (dedup_from same k xs) 0 ≡ Some k → slice_get (cond b (dedup_from same k xs) (k ∷ dedup_from same x xs)) 0 ≡ Some k
    by true h = h
    by false h = refl

-- so far ranks are given: the heads are those that are done, that of the run, and those of the rest
pub record NumbersOn (same : ℕ → ℕ → Bool) (places : List ℕ) (at : ℕ) (run : ℕ × ℕ) (ranks : List ℕ) : Type 0 where
  pub done : List ℕ
  pub heads : dedup same places ≡ done ++ dedup_from same run.0 (drop at places)
  pub len : length done ≡ run.1
  pub few : run.1 ≤ at
  pub each : (i : ℕ) → i < at → IsInRun same (dedup same places) (get_or ranks (get_or places i 0) 0) (get_or places i 0)

module _ (same : ℕ → ℕ → Bool) (own : (x : ℕ) → same x x ≡ true) where
  -- before the first place
  pub numbers_start : (places : List ℕ) (ranks : List ℕ) → 0 < length places → NumbersOn same places 0 (get_or places 0 0, 0) ranks
  numbers_start [] ranks h = absurd (omega (arith, h))
  numbers_start (x ∷ xs) ranks h = record {
    done = [];
    heads = ap (λ (b : Bool). cond b (dedup_from same x xs) (x ∷ dedup_from same x xs)) (sym (own x));
    len = refl;
    few = omega arith;
    each = λ i lt. absurd (omega (arith, lt));
  }

  -- the run of one more place: its head stands at its rank, and the place is in it
  run_more : (places : List ℕ) (at : ℕ) (run : ℕ × ℕ) (ranks : List ℕ) (x : ℕ) (rest : List ℕ) → NumbersOn same places at run ranks → drop at places ≡ x ∷ rest → (b : Bool) → same x run.0 ≡ b
      → IsInRun same (dedup same places) (cond b run (x, run.1 + 1)).1 x
      × ((done : List ℕ) × (dedup same places ≡ done ++ dedup_from same (cond b run (x, run.1 + 1)).0 rest) × (length done ≡ (cond b run (x, run.1 + 1)).1) × ((cond b run (x, run.1 + 1)).1 ≤ at + 1))
  run_more places at run ranks x rest h d true e =
      let heads : dedup same places ≡ h.done ++ dedup_from same run.0 rest =
      h.heads ∙ ap (λ (zs : List ℕ). h.done ++ dedup_from same run.0 zs) d ∙ ap (λ (b : Bool). h.done ++ cond b (dedup_from same run.0 rest) (run.0 ∷ dedup_from same x rest)) e in
      let stands : slice_get (dedup same places) run.1 ≡ Some run.0 =
      ap (λ (zs : List ℕ). slice_get zs run.1) heads ∙ ap (slice_get (h.done ++ dedup_from same run.0 rest)) (sym h.len) ∙ at_behind h.done (dedup_from same run.0 rest) ∙ head_first same run.0 rest in
      (record { head = run.0; stands = stands; equal = e }, (h.done, heads, h.len, omega (arith, h.few)))
  run_more places at run ranks x rest h d false e =
      let more = h.done ++ run.0 ∷ [] in
      let heads : dedup same places ≡ more ++ dedup_from same x rest =
      h.heads ∙ ap (λ (zs : List ℕ). h.done ++ dedup_from same run.0 zs) d ∙ ap (λ (b : Bool). h.done ++ cond b (dedup_from same run.0 rest) (run.0 ∷ dedup_from same x rest)) e
      ∙ sym (append_assoc h.done (run.0 ∷ []) (dedup_from same x rest)) in
      let len : length more ≡ run.1 + 1 = length_behind h.done run.0 ∙ ap (λ (n : ℕ). n + 1) h.len in
      let stands : slice_get (dedup same places) (run.1 + 1) ≡ Some x =
      ap (λ (zs : List ℕ). slice_get zs (run.1 + 1)) heads ∙ ap (slice_get (more ++ dedup_from same x rest)) (sym len) ∙ at_behind more (dedup_from same x rest) ∙ head_first same x rest in
      (record { head = x; stands = stands; equal = own x }, (more, heads, len, omega (arith, h.few)))

  -- one place more
  pub numbers_more : (places : List ℕ) (at : ℕ) (run new : ℕ × ℕ) (ranks : List ℕ) (x : ℕ) → NumbersOn same places at run ranks → at < length places → x ≡ get_or places at 0
      → x < length ranks → new ≡ run_with same run x → NumbersOn same places (at + 1) new (set ranks x new.1)
  numbers_more places at run new ranks x h lt is inside made =
      let d : drop at places ≡ x ∷ drop (at + 1) places = drop_more places at 0 lt ∙ ap (λ (y : ℕ). y ∷ drop (at + 1) places) (sym is) in
      let told = run_more places at run ranks x (drop (at + 1) places) h d (same x run.0) refl in
      subst (λ (r : ℕ × ℕ). NumbersOn same places (at + 1) r (set ranks x r.1)) (sym made) (record {
        done = told.1.0;
        heads = told.1.1;
        len = told.1.2;
        few = told.1.3;
        each = λ i below. by i below (cases_eq x (get_or places i 0)) (run_with same run x).1 told.0;
      })
    where
      earlier : (i : ℕ) → i < at + 1 → (x ≡ get_or places i 0 → ⊥) → i < at
      earlier i below ne = by_case (cases_eq i at)
        where
          by_case : (i ≡ at) ⊎ (i ≡ at → ⊥) → i < at
          by_case (inl e) = absurd (ne (is ∙ sym (ap (λ (j : ℕ). get_or places j 0) e)))
          by_case (inr other) = omega (arith, below, other)

      by : (i : ℕ) → i < at + 1 → (x ≡ get_or places i 0) ⊎ (x ≡ get_or places i 0 → ⊥) → (v : ℕ) → IsInRun same (dedup same places) v x
          → IsInRun same (dedup same places) (get_or (set ranks x v) (get_or places i 0) 0) (get_or places i 0)
      by i below (inl e) v good = subst (λ (p : ℕ). IsInRun same (dedup same places) (get_or (set ranks x v) p 0) p) e (subst (λ (r : ℕ). IsInRun same (dedup same places) r x) (sym (get_or-set_same ranks x v 0 inside)) good)
      by i below (inr ne) v good = subst (λ (r : ℕ). IsInRun same (dedup same places) r (get_or places i 0)) (sym (get_or-set_other ranks x (get_or places i 0) v 0 (λ e. ne (sym e)))) (h.each i (earlier i below ne))

  pub run_within : (count : ℕ) (run new : ℕ × ℕ) (x : ℕ) → run.0 < count → x < count → new ≡ run_with same run x → new.0 < count
  run_within count run new x a b made = subst (λ (r : ℕ × ℕ). r.0 < count) (sym made) (by (same x run.0))
    where
      by : (t : Bool) → (cond t run (x, run.1 + 1)).0 < count
      by true = a
      by false = b

  -- all places have their ranks
  pub numbers_done : (places : List ℕ) (at : ℕ) (run : ℕ × ℕ) (ranks : List ℕ) → NumbersOn same places at run ranks → at ≡ length places → AreNumbers same places ranks (run.1 + 1)
  numbers_done places at run ranks h e =
      let none : drop at places ≡ [] = drop_all at places (omega (arith, e)) in
      record {
        all = sym (ap length (h.heads ∙ ap (λ (zs : List ℕ). h.done ++ dedup_from same run.0 zs) none) ∙ length_behind h.done run.0 ∙ ap (λ (n : ℕ). n + 1) h.len);
        each = λ i lt. h.each i (omega (arith, lt, e));
      }

-- one entry more
pub placed_more : {K : Type 0} (keys : List K) (n : ℕ) → placed_at keys (range_with_len 0 (n + 1)) ≡ placed_at keys (range_with_len 0 n) ++ (slice_get keys n, n) ∷ []
placed_more {K} keys n =
    ap (λ (zs : List ℕ). placed_at keys zs) (ap (range_with_len 0) (let e : n + 1 ≡ suc n = omega arith in e) ∙ range_more 0 n ∙ ap (λ (x : ℕ). range_with_len 0 n ++ x ∷ []) (let e : 0 + n ≡ n = omega arith in e))
    ∙ map_push {Y = Placed K} (λ place. (slice_get keys place, place)) (range_with_len 0 n) n

-- entries of all places in order have the places in order of the keys
pub entries_by_key : {K : Type 0} (cmp : K → K → Ordering) (keys : List K) (es : List (Entry K)) → seen es ≡ placed_at keys (range_with_len 0 (length keys))
    → entry_places (once_in_order (λ (x y : Entry K). ordering_then (cmp x.0.now y.0.now) (nat_cmp x.1 y.1)) es) ≡ by_keys cmp keys
entries_by_key {K} cmp keys es h =
    let all = range_with_len 0 (length keys) in
    once_agrees (λ (e : Entry K). slice_get keys e.1 ≡ Some e.0.now) (λ (e : Entry K). e.1) (λ (x y : Entry K). ordering_then (cmp x.0.now y.0.now) (nat_cmp x.1 y.1)) (by_rank [] cmp keys)
    (λ x y a b. rw (a, b) refl) es (entries_read keys es all h)
    ∙ ap (once_in_order (by_rank [] cmp keys)) (entries_at keys es all h)

-- what is found stands at some place
place_of : (t : ℕ → Bool) (xs : List ℕ) (y : ℕ) → find t xs ≡ Some y → (i : ℕ) × (i < length xs) × (get_or xs i 0 ≡ y)
place_of t [] y e = absurd cc
place_of t (x ∷ xs) y e = by (t x) e (place_of t xs y)
  where
    by : (b : Bool) → cond b (Some x) (find t xs) ≡ Some y → (find t xs ≡ Some y → (i : ℕ) × (i < length xs) × (get_or xs i 0 ≡ y)) → (i : ℕ) × (i < length (x ∷ xs)) × (get_or (x ∷ xs) i 0 ≡ y)
    by true f rest = (0, omega arith, cc)
    by false f rest = let r = rest f in (suc r.0, omega (arith, r.1), r.2)

filter_all : {A : Type 0} (xs : List A) → filter (λ _. true) xs ≡ xs
filter_all [] = refl
filter_all (x ∷ xs) = ap (λ zs. x ∷ zs) (filter_all xs)

map_at : {A B : Type 0} (f : A → B) (xs : List A) (i : ℕ) (y : A) → slice_get xs i ≡ Some y → slice_get (map f xs) i ≡ Some (f y)
map_at f [] i y e = absurd cc
map_at f (x ∷ xs) zero y e = let same : x ≡ y = cc in ap (λ z. Some (f z)) same
map_at f (x ∷ xs) (suc i) y e = map_at f xs i y e

pub length_map : {A B : Type 0} (f : A → B) (xs : List A) → length (map f xs) ≡ length xs
length_map f [] = refl
length_map f (x ∷ xs) = ap suc (length_map f xs)

pub key_at : {K : Type 0} (keys : List K) (i : ℕ) (d : K) → i < length keys → slice_get keys i ≡ Some (get_or keys i d)
key_at [] i d h = absurd (omega (arith, h))
key_at (x ∷ xs) zero d h = refl
key_at (x ∷ xs) (suc i) d h = key_at xs i d (omega (arith, h))

module _ {K : Type 0} {cmp : K → K → Ordering} (o : IsTotalOrder cmp) (keys : List K) where
  abbrev by_key : ℕ → ℕ → Ordering
  by_key = then_cmp (on (slice_index []) nat_cmp) (on (slice_get keys) (option_cmp cmp))

  by_key_total : IsTotalOrder by_key
  by_key_total = then_total (on_total (slice_index []) nat_cmp_total) (on_total (slice_get keys) (options_total o))

  pub same_own : (x : ℕ) → same_key cmp keys x x ≡ true
  same_own x = ap is_eq (tied_itself (options_total o) (slice_get keys x))

  range_rises : (s n : ℕ) → IsStrictlySortedBy nat_cmp (range_with_len s n)
  unfolding IsStrictlySortedBy
  range_rises s zero = tt
  range_rises s (suc n) = (above s (s + 1) n (omega arith), range_rises (s + 1) n)
    where
      above : (k s n : ℕ) → k < s → AllByRecursion (λ i. nat_cmp k i ≡ Less) (range_with_len s n)
      above k s zero h = tt
      above k s (suc n) h = (rw (lt-ltb k s h) refl, above k (s + 1) n (omega (arith, h)))

  -- the heads of places in order have the keys in order
  heads_are : (d : K) → map (λ i. get_or keys i d) (dedup (same_key cmp keys) (by_keys cmp keys)) ≡ once_in_order cmp keys
  heads_are d =
      let n = length keys in
      let all = range_with_len 0 n in
      let stop : 0 + n ≡ n = omega arith in
      ap (map (λ i. get_or keys i d)) (
      ap (dedup (same_key cmp keys)) (sym (filter_all (by_keys cmp keys)))
      ∙ part_in_order by_key_total nat_cmp_total (λ _. true) all (range_rises 0 n)
      ∙ ap (once_in_order by_key) (filter_all all))
      ∙ once_agrees (λ i. i < n) (λ i. get_or keys i d) by_key cmp (λ i j a b. rw (key_at keys i d a, key_at keys j d b) refl) all (subst (λ (m : ℕ). AllByRecursion (λ i. i < m) all) stop (below_stop 0 n))
      ∙ ap (once_in_order cmp) (by_places d keys)

  pub places_inside : All (λ place. place < length keys) (by_keys cmp keys)
  places_inside =
      let n = length keys in
      let all = range_with_len 0 n in
      let stop : 0 + n ≡ n = omega arith in
      All-from_recursion (λ i. i < n) (by_keys cmp keys) (all_once (λ i. i < n) (by_rank [] cmp keys) all (subst (λ (m : ℕ). AllByRecursion (λ i. i < m) all) stop (below_stop 0 n)))

  there : (q : ℕ) → q < length keys → find (is_equal (by_rank [] cmp keys) q) (by_keys cmp keys) ≡ Some q
  there q h =
      let all = range_with_len 0 (length keys) in
      find_once (by_rank_total o [] keys) q all ∙ found o [] keys q all ∙ ap (λ (b : Bool). cond b (Some q) None) (has_range q 0 (length keys) (omega arith) (omega (arith, h)))

  first_key : (i : ℕ) (x : K) → slice_get keys i ≡ Some x → (d : K) → get_or keys i d ≡ x
  first_key i x e d = go keys i e
    where
      go : (ks : List K) (i : ℕ) → slice_get ks i ≡ Some x → get_or ks i d ≡ x
      go [] i e = absurd cc
      go (k ∷ ks) zero e = cc
      go (k ∷ ks) (suc i) e = go ks i e

  -- what is in the run of a head has the rank of that head
  is_rank : (d : K) (i rank : ℕ) → i < length keys → IsInRun (same_key cmp keys) (dedup (same_key cmp keys) (by_keys cmp keys)) rank i → IsRank cmp keys rank (slice_get keys i)
  is_rank d i rank h r =
      let stands : slice_get (once_in_order cmp keys) rank ≡ Some (get_or keys r.head d) =
      ap (λ (zs : List K). slice_get zs rank) (sym (heads_are d)) ∙ map_at (λ j. get_or keys j d) (dedup (same_key cmp keys) (by_keys cmp keys)) rank r.head r.stands in
      ap (λ (k : Option K). option_cmp cmp k (slice_get keys i)) stands
      ∙ ap (option_cmp cmp (Some (get_or keys r.head d))) (key_at keys i d h)
      ∙ by (slice_get keys r.head) refl (subst (λ (k : Option K). is_eq (option_cmp cmp k (slice_get keys r.head)) ≡ true) (key_at keys i d h) r.equal)
    where
      equal : (s : Ordering) → is_eq s ≡ true → s ≡ Equal
      equal Less e = absurd (let f : false ≡ true = e in cc)
      equal Equal e = refl
      equal Greater e = absurd (let f : false ≡ true = e in cc)

      by : (k : Option K) → slice_get keys r.head ≡ k → is_eq (option_cmp cmp (Some (get_or keys i d)) k) ≡ true → cmp (get_or keys r.head d) (get_or keys i d) ≡ Equal
      by None e f = absurd (let g : false ≡ true = f in cc)
      by (Some x) e f =
          ap (λ (k : K). cmp k (get_or keys i d)) (first_key r.head x e d)
          ∙ o.antisymm x (get_or keys i d) ∙ ap ordering_reverse (equal (cmp (get_or keys i d) x) f)

all_heads : {K : Type 0} {cmp : K → K → Ordering} (o : IsTotalOrder cmp) (keys : List K) → length (dedup (same_key cmp keys) (by_keys cmp keys)) ≡ length (once_in_order cmp keys)
all_heads o [] = refl
all_heads {K} {cmp} o (d ∷ ks) = sym (length_map (λ i. get_or (d ∷ ks) i d) (dedup (same_key cmp (d ∷ ks)) (by_keys cmp (d ∷ ks)))) ∙ ap length (heads_are o (d ∷ ks) d)

pub some_key : {K : Type 0} (ks : List K) (i : ℕ) → i < length ks → K
some_key [] i h = absurd (omega (arith, h))
some_key (k ∷ ks) i h = k

-- numbers of all places in order are ranks
pub ranks_are : {K : Type 0} {cmp : K → K → Ordering} (o : IsTotalOrder cmp) (keys : List K) (ranks : List ℕ) (count : ℕ) → length ranks ≡ length keys
    → AreNumbers (same_key cmp keys) (by_keys cmp keys) ranks count → AreRanks cmp keys ranks count
ranks_are {K} {cmp} o keys ranks count len are = record { len = len; each = each; all = are.all ∙ all_heads o keys }
  where
    each : (i : ℕ) → i < length keys → IsRank cmp keys (slice_index ranks i) (slice_get keys i)
    each i h = by (place_of (is_equal (by_rank [] cmp keys) i) (by_keys cmp keys) i (there o keys i h))
      where
        by : (j : ℕ) × (j < length (by_keys cmp keys)) × (get_or (by_keys cmp keys) j 0 ≡ i) → IsRank cmp keys (slice_index ranks i) (slice_get keys i)
        by (j, lt, e) = is_rank o keys (some_key keys i h) i (slice_index ranks i) h
            (subst (λ (p : ℕ). IsInRun (same_key cmp keys) (dedup (same_key cmp keys) (by_keys cmp keys)) (slice_index ranks p) p) e (are.each j lt))

-- keys that rise compare as their places do
module _ {K : Type 0} {cmp : K → K → Ordering} (o : IsTotalOrder cmp) where
  rising_at : (xs : List K) (i j : ℕ) (d : K) → IsStrictlySortedBy cmp xs → i < j → j < length xs → cmp (get_or xs i d) (get_or xs j d) ≡ Less
  unfolding IsStrictlySortedBy
  rising_at [] i j d s lt inside = absurd (omega (arith, inside))
  rising_at (x ∷ xs) zero zero d s lt inside = absurd (omega (arith, lt))
  rising_at (x ∷ xs) zero (suc j) d s lt inside = All-from_recursion (λ y. cmp x y ≡ Less) xs s.0 j d (omega (arith, inside))
  rising_at (x ∷ xs) (suc i) zero d s lt inside = absurd (omega (arith, lt))
  rising_at (x ∷ xs) (suc i) (suc j) d s lt inside = rising_at xs i j d s.1 (omega (arith, lt)) (omega (arith, inside))

  pub rising_compares : (xs : List K) (i j : ℕ) (d : K) → IsStrictlySortedBy cmp xs → i < length xs → j < length xs → nat_cmp i j ≡ cmp (get_or xs i d) (get_or xs j d)
  rising_compares xs i j d s a b = by (cases_eq i j)
    where
      less : (m n : ℕ) → m < n → nat_cmp m n ≡ Less
      less m n h = rw (lt-ltb m n h) refl

      more : (i < j) ⊎ (j < i) → nat_cmp i j ≡ cmp (get_or xs i d) (get_or xs j d)
      more (inl h) = less i j h ∙ sym (rising_at xs i j d s h b)
      more (inr h) = nat_cmp_total.antisymm i j ∙ ap ordering_reverse (less j i h ∙ sym (rising_at xs j i d s h a)) ∙ sym (o.antisymm (get_or xs i d) (get_or xs j d))

      side : (i ≡ j → ⊥) → (i < j) ⊎ (j < i)
      side ne = grind arith

      by : (i ≡ j) ⊎ (i ≡ j → ⊥) → nat_cmp i j ≡ cmp (get_or xs i d) (get_or xs j d)
      by (inl e) = subst (λ (k : ℕ). nat_cmp i k ≡ cmp (get_or xs i d) (get_or xs k d)) e (tied_itself nat_cmp_total i ∙ sym (tied_itself o (get_or xs i d)))
      by (inr ne) = more (side ne)

-- labels met under a function are those of its images
pub met_map : {A : Type 0} (label : A → ℕ) (xs : List A) → met (λ l. l) (map label xs) ≡ met label xs
met_map {A} label xs = go [] xs
  where
    go : (seen : List ℕ) (xs : List A) → met_after (λ l. l) seen (map label xs) ≡ met_after label seen xs
    go seen [] = refl
    go seen (x ∷ xs) = by (list_any (λ l. label x == l) seen) (go seen xs) (go (label x ∷ seen) xs)
      where
        by : (b : Bool) → met_after (λ l. l) seen (map label xs) ≡ met_after label seen xs → met_after (λ l. l) (label x ∷ seen) (map label xs) ≡ met_after label (label x ∷ seen) xs
            → cond b (met_after (λ l. l) seen (map label xs)) (label x ∷ met_after (λ l. l) (label x ∷ seen) (map label xs)) ≡ cond b (met_after label seen xs) (label x ∷ met_after label (label x ∷ seen) xs)
        by true f g = f
        by false f g = ap (λ (zs : List ℕ). label x ∷ zs) g
