-- The rows of a hash map, in the order of their keys.
use Rattle.std.proofs.Common.{◌≡◌, ◌+◌, Bool, true, false, ◌&&◌, T, List, [], ◌∷◌, map, get_or, Option, None, Some, is_some, cond, refl, sym, ap, subst, ◌∙◌, arith}
use Rattle.std.specs.List.{IsDistinct, AllByRecursion, filter, list_any}
use Rattle.std.specs.List.Sorted.{IsPermutation, IsSorted, IsStrictlySortedBy}
use Rattle.std.specs.Map.{lookup, keys_of}
use Rattle.std.specs.declared.cmp.Ordering.{Ordering}
use Rattle.std.specs.declared.cmp.Ordering.TheVariants.{Less, Equal, Greater}
use Rattle.std.specs.Ordering.{eq_by_cmp, is_lt, is_eq, ordering_reverse}
use Rattle.std.specs.FinMap.{entries, entries_sorted, from_entries, get-entries, get-from_entries}
use Rattle.std.specs.FinMap.Entries.{below_all, is_sorted, is_some-find, same_entries}
use Rattle.std.proofs.lemmas.List.Sorted.{Contains-permutation, IsPermutation-map, IsPermutation-sym, list_any-IsPermutation}
use Rattle.std.proofs.lemmas.Map.Entries.{option_filter, lookup-filter-values}
use Rattle.std.proofs.lemmas.Map.Keys.{IsDistinct-IsPermutation, IsDistinct-from_sorted, IsDistinct-from_apart, apart_from_distinct, sorted_from_all_adjacent, sorted_head, sorted_tail}
use Rattle.std.proofs.lemmas.Map.Views.{Contains-from_lookup, lookup-from_Contains}
use Rattle.project_model.proofs.Rows.{IsKey, key_equal, key_same, find_row, get_row}

both : (a b : Bool) → T a → T b → T (a && b)
both true b p q = q
both false b p q = p

first : (a b : Bool) → T (a && b) → T a
first true b p = tt
first false b p = p

second : (a b : Bool) → T (a && b) → T b
second true b p = p
second false b p = absurd p

is_less : (r : Ordering) → r ≡ Less → T (is_lt r)
is_less r e = subst (λ s. T (is_lt s)) (sym e) tt

-- neither tied nor after: before
rises : (r : Ordering) → is_eq r ≡ false → is_lt (ordering_reverse r) ≡ false → r ≡ Less
rises Less apart below = refl
rises Equal apart below = absurd (let h : true ≡ false = apart in cc)
rises Greater apart below = absurd (let h : true ≡ false = below in cc)

less : (r : Ordering) → T (is_lt r) → r ≡ Less
less Less h = refl
less Equal h = absurd h
less Greater h = absurd h

same_mark : (a b : Option (Unit {0})) → is_some a ≡ is_some b → a ≡ b
same_mark None None e = refl
same_mark None (Some y) e = absurd (let h : false ≡ true = e in cc)
same_mark (Some x) None e = absurd (let h : true ≡ false = e in cc)
same_mark (Some x) (Some y) e = refl

-- keys as rows with nothing beside them
abbrev marked : {K : Type 0} → List K → List (K × Unit {0})
marked ks = map (λ k. (k, tt)) ks

keys_of-marked : {K : Type 0} → (ks : List K) → keys_of (marked ks) ≡ ks
keys_of-marked [] = refl
keys_of-marked (k ∷ ks) = ap (◌∷◌ k) (keys_of-marked ks)

module _ {K : Type 0} {R : K → K → Ordering} {E : K → K → Bool} (o : IsKey R E) where
  -- keys that are sorted and distinct rise
  pub keys_rise : (ks : List K) (d : K) → IsSorted R ks → IsDistinct E ks → IsStrictlySortedBy R ks
  keys_rise ks d s apart = sorted_from_all_adjacent o.total ks d (λ k lt.
      let x = get_or ks k d in
      let y = get_or ks (k + 1) d in
      rises (R x y) (sym (o.agree x y) ∙ apart_from_distinct E ks k (k + 1) d apart (omega arith) lt) (ap is_lt (sym (o.total.antisymm y x)) ∙ s k d (omega arith) lt))

module _ {K X : Type 0} (R : K → K → Ordering) where
  below_rows : (k : K) (es : List (K × X)) → AllByRecursion (λ y. R k y ≡ Less) (keys_of es) → T (below_all R k es)
  below_rows k [] h = tt
  below_rows k (e ∷ es) h = both _ _ (is_less (R k e.0) h.0) (below_rows k es h.1)

  -- rows whose keys rise are rows in order
  pub rows_sorted : (es : List (K × X)) → IsStrictlySortedBy R (keys_of es) → T (is_sorted R es)
  rows_sorted [] h = tt
  rows_sorted (e ∷ es) h = both _ _ (below_rows e.0 es (sorted_head R e.0 (keys_of es) h)) (rows_sorted es (sorted_tail R e.0 (keys_of es) h))

  below_filter : (p : K × X → Bool) (k : K) (es : List (K × X)) → T (below_all R k es) → T (below_all R k (filter p es))
  below_filter p k [] h = tt
  below_filter p k (e ∷ es) h =
      let rest = below_filter p k es (second _ _ h) in
      elim (p e) as (λ b. T (below_all R k (cond b (e ∷ filter p es) (filter p es)))) [ true ↦ both _ _ (first _ _ h) rest | false ↦ rest ]

  -- rows in order stay so where some are left out
  pub sorted_filter : (p : K × X → Bool) (es : List (K × X)) → T (is_sorted R es) → T (is_sorted R (filter p es))
  sorted_filter p [] h = tt
  sorted_filter p (e ∷ es) h =
      let rest = sorted_filter p es (second _ _ h) in
      elim (p e) as (λ b. T (is_sorted R (cond b (e ∷ filter p es) (filter p es)))) [ true ↦ both _ _ (below_filter p e.0 es (first _ _ h)) rest | false ↦ rest ]

  keys_above : (k : K) (es : List (K × X)) → T (below_all R k es) → AllByRecursion (λ y. R k y ≡ Less) (keys_of es)
  keys_above k [] h = tt
  keys_above k (e ∷ es) h = (less (R k e.0) (first _ _ h), keys_above k es (second _ _ h))

  -- the keys of rows in order rise
  pub keys_sorted : (es : List (K × X)) → T (is_sorted R es) → IsStrictlySortedBy R (keys_of es)
  unfolding IsStrictlySortedBy
  keys_sorted [] h = tt
  keys_sorted (e ∷ es) h = (keys_above e.0 es (first _ _ h), keys_sorted es (second _ _ h))

module _ {K X : Type 0} {R : K → K → Ordering} {E : K → K → Bool} (o : IsKey R E) where
  -- rows with distinct keys answer alike in any order
  same_lookup : (es fs : List (K × X)) → IsPermutation es fs → IsDistinct E (keys_of es) → IsDistinct E (keys_of fs) → (q : K) → lookup (E q) fs ≡ lookup (E q) es
  same_lookup es fs p d f q = go (lookup (E q) es) (lookup (E q) fs) refl refl
    where
      go : (a b : Option X) → lookup (E q) es ≡ a → lookup (E q) fs ≡ b → lookup (E q) fs ≡ lookup (E q) es
      go (Some v) b before after = lookup-from_Contains (key_equal o) q v fs f (Contains-permutation es fs (q, v) p (Contains-from_lookup (key_same o) q v es before)) ∙ sym before
      go None None before after = after ∙ sym before
      go None (Some v) before after = after ∙ sym (lookup-from_Contains (key_equal o) q v es d (Contains-permutation fs es (q, v) (IsPermutation-sym es fs p) (Contains-from_lookup (key_same o) q v fs after)))

  distinct_keys : (es fs : List (K × X)) → IsPermutation es fs → IsDistinct E (keys_of es) → IsDistinct E (keys_of fs)
  distinct_keys es fs p d = IsDistinct-IsPermutation E (key_equal o).symm (keys_of es) (keys_of fs) (IsPermutation-map (λ e. e.0) es fs p) d

  -- rows in order are those of the finite map
  pub rows_in_order : (es fs : List (K × X)) → IsPermutation es fs → IsDistinct E (keys_of es) → IsStrictlySortedBy R (keys_of fs) → fs ≡ entries (from_entries {R = R} es)
  rows_in_order es fs p d s = same_entries R o.total o.exact fs (entries (from_entries es)) (rows_sorted R fs s) (entries_sorted (from_entries {R = R} es)) (λ q.
      find_row o fs q ∙ same_lookup es fs p d (distinct_keys es fs p d) q ∙ sym (get_row o es q) ∙ get-entries (from_entries es) q)

  distinct_in_order : (es : List (K × X)) → T (is_sorted R es) → IsDistinct E (keys_of es)
  distinct_in_order es s =
      let apart = IsDistinct-from_sorted R (keys_of es) (keys_sorted R es s) in
      IsDistinct-from_apart E (keys_of es) (λ i j d lt end. o.agree _ _ ∙ apart_from_distinct (eq_by_cmp R) (keys_of es) i j d apart lt end)

  -- keys in order are those of the finite map
  pub keys_in_order : (es : List (K × X)) (ks : List K) → IsPermutation (keys_of es) ks → IsStrictlySortedBy R ks → ks ≡ keys_of (entries (from_entries {R = R} es))
  keys_in_order es ks p s =
      let all = entries (from_entries {R = R} es) in
      let sorted = entries_sorted (from_entries {R = R} es) in
      let same : marked ks ≡ marked (keys_of all) = same_entries R o.total o.exact (marked ks) (marked (keys_of all))
      (rows_sorted R (marked ks) (subst (IsStrictlySortedBy R) (sym (keys_of-marked ks)) s))
      (rows_sorted R (marked (keys_of all)) (subst (IsStrictlySortedBy R) (sym (keys_of-marked (keys_of all))) (keys_sorted R all sorted)))
      (λ q. same_mark _ _ (
      is_some-find R q (marked ks) ∙ ap (list_any (eq_by_cmp R q)) (keys_of-marked ks)
      ∙ sym (list_any-IsPermutation (eq_by_cmp R q) (keys_of es) ks p)
      ∙ sym (is_some-find R q es) ∙ ap is_some (sym (get-from_entries o.total es q) ∙ get-entries (from_entries es) q)
      ∙ is_some-find R q all
      ∙ ap (list_any (eq_by_cmp R q)) (sym (keys_of-marked (keys_of all))) ∙ sym (is_some-find R q (marked (keys_of all))))) in
      sym (keys_of-marked ks) ∙ ap keys_of same ∙ keys_of-marked (keys_of all)

  -- what passes a test of its value, in the order of the keys
  pub filter_in_order : (p : X → Bool) (es : List (K × X)) → IsDistinct E (keys_of es) → entries (from_entries {R = R} (filter (λ e. p e.1) es)) ≡ filter (λ e. p e.1) (entries (from_entries {R = R} es))
  filter_in_order p es d =
      let kept = filter (λ (e : K × X). p e.1) es in
      let all = entries (from_entries {R = R} es) in
      let unique = distinct_in_order all (entries_sorted (from_entries {R = R} es)) in
      same_entries R o.total o.exact (entries (from_entries {R = R} kept)) (filter (λ e. p e.1) all) (entries_sorted (from_entries {R = R} kept)) (sorted_filter R (λ e. p e.1) all (entries_sorted (from_entries {R = R} es))) (λ q.
      sym (get-entries (from_entries {R = R} kept) q) ∙ get_row o kept q ∙ lookup-filter-values (key_equal o) p q es d
      ∙ ap (option_filter p) (sym (get_row o es q) ∙ get-entries (from_entries es) q ∙ find_row o all q)
      ∙ sym (lookup-filter-values (key_equal o) p q all unique) ∙ sym (find_row o (filter (λ e. p e.1) all) q))
