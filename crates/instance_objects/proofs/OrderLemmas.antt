-- Objects in order: those of one instance, and those of one instance more.
use Rattle.std.proofs.Common.{◌≡◌, ◌-◌, ℕ, suc, Bool, true, false, List, [], ◌∷◌, ◌++◌, Some, Ordering, length, map, refl, sym, ap, subst, ◌∙◌, arith}
use Rattle.std.specs.Prelude.{option_map}
use Rattle.std.specs.List.{AllByRecursion, filter, slice_get}
use Rattle.std.specs.List.Sorted.{IsStrictlySortedBy}
use Rattle.std.specs.Cmp.{IsTotalOrder, nat_cmp_total, tied_itself}
use Rattle.std.specs.declared.cmp.Ordering.TheVariants.{Less, Equal, Greater}
use Rattle.std.specs.FinMap.{entries, entries_sorted}
use Rattle.std.specs.Ordering.{is_lt, nat_cmp}
use Rattle.std.proofs.lemmas.Cmp.{nat_list_cmp_total, on_total, then_total}
use Rattle.std.proofs.lemmas.Option.{slice_get-map}
use Rattle.geda_defs.specs.Order.{once_in_order}
use Rattle.geda_defs.proofs.OnceLaws.{find_once, is_once_in_order, same_found}
use Rattle.project_model.specs.Projects.{ProjectData, ids_on, is_on}
use Rattle.project_model.proofs.OrderedRows.{keys_sorted, sorted_filter}
use Rattle.hierarchy.specs.declared.instances.Instance.{Instance}
use Rattle.instance_objects.specs.Occurrences.{OccurrenceData, by_occurrence}
use Rattle.instance_objects.specs.steps.SheetIds.{comes_before, occurrence}

is_less : (r : Ordering) → is_lt r ≡ true → r ≡ Less
is_less Less e = refl
is_less Equal e = absurd (let h : false ≡ true = e in cc)
is_less Greater e = absurd (let h : false ≡ true = e in cc)

last_cons : {K : Type 0} (x y : K) (xs : List K) → slice_get (x ∷ y ∷ xs) (length (x ∷ y ∷ xs) - 1) ≡ slice_get (y ∷ xs) (length (y ∷ xs) - 1)
last_cons x y xs =
    let e : length (x ∷ y ∷ xs) - 1 ≡ suc (length xs) = omega arith in
    let f : length (y ∷ xs) - 1 ≡ length xs = omega arith in
    rw (e, f) refl

module _ {K : Type 0} {cmp : K → K → Ordering} (o : IsTotalOrder cmp) where
  -- what rises is in order, each once
  pub once_of_rising : (xs : List K) → IsStrictlySortedBy cmp xs → once_in_order cmp xs ≡ xs
  once_of_rising xs s = same_found o (once_in_order cmp xs) xs (is_once_in_order o xs).rising s (λ q. find_once o q xs)

  below_all : (k x : K) (xs : List K) → cmp k x ≡ Less → AllByRecursion (λ y. cmp x y ≡ Less) xs → AllByRecursion (λ y. cmp k y ≡ Less) xs
  below_all k x [] e a = tt
  below_all k x (y ∷ ys) e a = (o.trans k x y e a.0, below_all k x ys e a.1)

  below_first : (x : K) (ys : List K) → comes_before cmp (Some x) (slice_get ys 0) ≡ true → IsStrictlySortedBy cmp ys → AllByRecursion (λ y. cmp x y ≡ Less) ys
  unfolding IsStrictlySortedBy
  below_first x [] h s = tt
  below_first x (y ∷ ys) h s =
      let e = is_less (cmp x y) h in
      (e, below_all x y ys e s.0)

  -- what rises, and behind it what rises from above its end on
  pub rises_append : (xs ys : List K) → IsStrictlySortedBy cmp xs → IsStrictlySortedBy cmp ys
      → comes_before cmp (slice_get xs (length xs - 1)) (slice_get ys 0) ≡ true → IsStrictlySortedBy cmp (xs ++ ys)
  unfolding IsStrictlySortedBy
  rises_append [] ys s t h = t
  rises_append (x ∷ []) ys s t h = (below_first x ys h t, t)
  rises_append (x ∷ y ∷ xs) ys s t h =
      let rest = rises_append (y ∷ xs) ys s.1 t (rw (last_cons x y xs) at h) in
      ((s.0.0, below_all x y (xs ++ ys) s.0.0 rest.0), rest)

-- nothing rises
pub none_rise : {K : Type 0} (cmp : K → K → Ordering) (xs : List K) → xs ≡ [] → IsStrictlySortedBy cmp xs
unfolding IsStrictlySortedBy
none_rise cmp xs e = subst (IsStrictlySortedBy cmp) (sym e) tt

pub by_occurrence_total : IsTotalOrder by_occurrence
by_occurrence_total = then_total (on_total (λ o. o.route) nat_list_cmp_total) (on_total (λ o. o.id) nat_cmp_total)

module _ (place : ℕ) (i : Instance) where
  above : (id : ℕ) (ids : List ℕ) → AllByRecursion (λ y. nat_cmp id y ≡ Less) ids → AllByRecursion (λ o. by_occurrence (occurrence place i id) o ≡ Less) (map (occurrence place i) ids)
  above id [] a = tt
  above id (y ∷ ys) a = (rw (tied_itself nat_list_cmp_total i.route) a.0, above id ys a.1)

  -- the objects of an instance rise with their ids
  pub occurrences_rise : (ids : List ℕ) → IsStrictlySortedBy nat_cmp ids → IsStrictlySortedBy by_occurrence (map (occurrence place i) ids)
  unfolding IsStrictlySortedBy
  occurrences_rise [] s = tt
  occurrences_rise (id ∷ ids) s = (above id ids s.0, occurrences_rise ids s.1)

  -- behind others they rise too, where they come behind the last of those
  pub instance_rises : (ids : List ℕ) (old listed new : List OccurrenceData) (keeps : Bool) → IsStrictlySortedBy nat_cmp ids → listed ≡ old
      → keeps ≡ comes_before by_occurrence (slice_get listed (length listed - 1)) (option_map (occurrence place i) (slice_get ids 0))
      → new ≡ old ++ map (occurrence place i) ids → keeps ≡ true → IsStrictlySortedBy by_occurrence old → IsStrictlySortedBy by_occurrence new
  instance_rises ids old listed new keeps rising same told made e sorted =
      let more = map (occurrence place i) ids in
      let joins : comes_before by_occurrence (slice_get old (length old - 1)) (slice_get more 0) ≡ true =
      ap (comes_before by_occurrence (slice_get old (length old - 1))) (slice_get-map (occurrence place i) ids 0)
      ∙ ap (λ (os : List OccurrenceData). comes_before by_occurrence (slice_get os (length os - 1)) (option_map (occurrence place i) (slice_get ids 0))) (sym same)
      ∙ sym told ∙ e in
      subst (IsStrictlySortedBy by_occurrence) (sym made) (rises_append by_occurrence_total old more sorted (occurrences_rise ids rising) joins)

-- the ids of a sheet's objects rise
pub ids_rise : (p : ProjectData) (name : List ℕ) → IsStrictlySortedBy nat_cmp (ids_on p name)
ids_rise p name =
    let all = entries p.objects in
    keys_sorted nat_cmp (filter (is_on name) all) (sorted_filter nat_cmp (is_on name) all (entries_sorted p.objects))
