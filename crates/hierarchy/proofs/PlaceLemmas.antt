-- The place of a name among names that rise.
use Rattle.std.proofs.Common.{◌≡◌, ◌<◌, ◌+◌, ℕ, Bool, true, false, List, [], length, get_or, Option, None, Some, Result, Ok, Err, refl, sym, ap, ◌∙◌, inl, inr, arith}
use Rattle.std.specs.Prelude.{cond, nat_lt}
use Rattle.std.specs.declared.cmp.Ordering.{Ordering}
use Rattle.std.specs.declared.cmp.Ordering.TheVariants.{Less, Greater}
use Rattle.std.specs.Ordering.{is_eq, is_lt, nat_cmp, ordering_index, ordering_reverse}
use Rattle.std.specs.Cmp.Lexicographic.{slice_cmp}
use Rattle.std.specs.Cmp.{tied_itself}
use Rattle.std.specs.List.{position, position_or_len, slice_get}
use Rattle.std.specs.List.Sorted.{IsBinarySearchResult, IsNonDecreasingBy, IsSearchInRange, IsSortedBy, IsStrictlySortedBy}
use Rattle.std.specs.Result.{result_ok}
use Rattle.std.specs.Str.{bytes_eq}
use Rattle.std.specs.FinMap.{entries, entries_sorted, keys}
use Rattle.std.proofs.lemmas.Bool.{cases_lt, false≢true}
use Rattle.std.proofs.lemmas.Bool.Decides.{nat_tests}
use Rattle.std.proofs.lemmas.Cmp.{nat_list_cmp_total}
use Rattle.std.proofs.lemmas.List.Sorted.{searchable_from_sorted}
use Rattle.std.proofs.lemmas.List.Sums.{fails_before_first, position_or_len_is}
use Rattle.std.proofs.lemmas.Map.Keys.{Less-from_sorted}
use Rattle.std.proofs.lemmas.Map.Lookups.{exact_bytes}
use Rattle.std.proofs.lemmas.Map.Text.{is_eq-slice_cmp}
use Rattle.std.proofs.lemmas.Option.{get_or_from_slice_get, slice_get_within}
use Rattle.std.proofs.lemmas.Slice.Eq.{bytes_eq-Decides}
use Rattle.geda_defs.proofs.Bytes.{bytes_true, bytes_false}
use Rattle.project_model.specs.Projects.{ProjectData}
use Rattle.project_model.proofs.OrderedRows.{keys_sorted}
use Rattle.hierarchy.specs.steps.SheetRows.{is_name}

pub lt_true : (i n : ℕ) → i < n → nat_lt i n ≡ true
lt_true i n lt = grind (arith, nat_tests)

not_below_itself : (n : ℕ) → nat_lt n n ≡ false
not_below_itself n = grind (arith, nat_tests)

module _ {X : Type 0} (test : X → Bool) where
  -- the first element that passes
  pub position_at : (xs : List X) (i : ℕ) (d : X) → i < length xs → ((k : ℕ) → k < i → test (get_or xs k d) ≡ false) → test (get_or xs i d) ≡ true → position test xs ≡ Some i
  position_at xs i d lt before here =
      let e : position_or_len test xs ≡ i = position_or_len_is test xs i d (omega arith) before (λ _. here) in
      let go : cond (nat_lt (position_or_len test xs) (length xs)) (Some (position_or_len test xs)) None ≡ Some i = rw (e, lt_true i (length xs) lt) refl in
      go

  position_none : (xs : List X) (d : X) → ((k : ℕ) → k < length xs → test (get_or xs k d) ≡ false) → position test xs ≡ None
  position_none xs d fails =
      let e : position_or_len test xs ≡ length xs = position_or_len_is test xs (length xs) d (omega arith) fails (λ lt. absurd (omega arith)) in
      let go : cond (nat_lt (position_or_len test xs) (length xs)) (Some (position_or_len test xs)) None ≡ None = rw (e, not_below_itself (length xs)) refl in
      go

  pub fails_from_none : (xs : List X) → position test xs ≡ None → (k : ℕ) (d : X) → k < length xs → test (get_or xs k d) ≡ false
  fails_from_none xs none k d h = elim (cases_lt (position_or_len test xs) (length xs)) [
    | inl lt ↦ absurd (
        let u : cond (nat_lt (position_or_len test xs) (length xs)) (Some (position_or_len test xs)) None ≡ None = none in
        let e : Some (position_or_len test xs) ≡ None = rw (lt_true (position_or_len test xs) (length xs) lt) at u in
        cc)
    | inr le ↦ fails_before_first test xs k d (omega arith)
  ]

-- texts that do not tie are two
untied : (x y : List ℕ) (o : Ordering) → slice_cmp nat_cmp x y ≡ o → is_eq o ≡ false → x ≡ y → ⊥
untied x y o e f same = false≢true (sym f ∙ ap is_eq (sym e) ∙ is_eq-slice_cmp x y ∙ bytes_true x y same)

module _ (names : List (List ℕ)) (rising : IsStrictlySortedBy (slice_cmp nat_cmp) names) where
  earlier_apart : (i j : ℕ) (d : List ℕ) → i < j → j < length names → get_or names i d ≡ get_or names j d → ⊥
  earlier_apart i j d lt h same =
      untied (get_or names i d) (get_or names j d) Less (Less-from_sorted (slice_cmp nat_cmp) names i j d rising lt h) refl same

  -- two places have two names
  pub names_apart : (i j : ℕ) (d : List ℕ) → i < length names → j < length names → (i ≡ j → ⊥) → get_or names i d ≡ get_or names j d → ⊥
  names_apart i j d h k apart same = elim (cases_lt i j) [
    | inl lt ↦ earlier_apart i j d lt k same
    | inr le ↦ elim (cases_lt j i) [ inl lt ↦ earlier_apart j i d lt h (sym same) | inr ge ↦ apart (omega arith) ]
  ]

  names_sorted : IsSortedBy (λ a b. is_lt (slice_cmp nat_cmp a b)) names
  names_sorted k d low high =
      let x = get_or names k d in
      let y = get_or names (k + 1) d in
      ap is_lt (nat_list_cmp_total.antisymm y x ∙ ap ordering_reverse (Less-from_sorted (slice_cmp nat_cmp) names k (k + 1) d rising (omega arith) high))

  comparisons_rise : (value : List ℕ) → IsNonDecreasingBy (λ y. ordering_index (slice_cmp nat_cmp y value)) names
  comparisons_rise value = searchable_from_sorted nat_list_cmp_total (λ x. x) names value names_sorted

  -- a binary search ends at the place of the value, or finds that there is none
  pub searched : (value : List ℕ) (r : Result ℕ ℕ) → IsSearchInRange r (length names) → IsBinarySearchResult (λ y. slice_cmp nat_cmp y value) names r → result_ok r ≡ position (bytes_eq value) names
  searched value (Ok at) within equal =
      let here : get_or names at [] ≡ value = exact_bytes (get_or names at []) value (equal []) in
      sym (position_at (bytes_eq value) names at [] within
      (λ k lt. bytes_false value (get_or names k []) (λ same. earlier_apart k at [] lt within (sym same ∙ sym here)))
      (bytes_true value (get_or names at []) (sym here)))
  searched value (Err at) within parted =
      let part = parted (comparisons_rise value) in
      sym (position_none (bytes_eq value) names [] (λ k h. bytes_false value (get_or names k []) (λ same. elim (cases_lt k at) [
        | inl lt ↦ untied (get_or names k []) value Less (part.0 k [] (omega arith) lt) refl (sym same)
        | inr le ↦ untied (get_or names k []) value Greater (part.1 k [] le h) refl (sym same)
      ])))

  -- the value stands at the place where its name is read
  pub near_place : (value : List ℕ) (near : ℕ) → is_name value (slice_get names near) ≡ true → Some near ≡ position (bytes_eq value) names
  near_place value near e = by (slice_get names near) refl e
    where
      by : (found : Option (List ℕ)) → slice_get names near ≡ found → is_name value found ≡ true → Some near ≡ position (bytes_eq value) names
      by None read h = absurd (let other : false ≡ true = h in cc)
      by (Some name) read h =
          let same : name ≡ value = (bytes_eq-Decides name value).0 h in
          searched value (Ok near) (slice_get_within names near name read)
          (λ d. rw (get_or_from_slice_get names near name d read, same) (tied_itself nat_list_cmp_total value))

-- the names of a project's sheets rise
pub keys_rise : (p : ProjectData) → IsStrictlySortedBy (slice_cmp nat_cmp) (keys p.sheets)
keys_rise p = keys_sorted (slice_cmp nat_cmp) (entries p.sheets) (entries_sorted p.sheets)
