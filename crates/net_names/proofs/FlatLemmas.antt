-- The objects of a project in the instances of its sheets: each object of a sheet stands in each of
-- its instances.
use Rattle.std.proofs.Common.{◌≡◌, ℕ, zero, suc, ◌+◌, List, [], ◌∷◌, Some, Contains, get_or, refl, sym, ap, ◌∙◌, subst, arith}
use Rattle.std.specs.Prelude.{All}
use Rattle.std.specs.declared.cmp.Ordering.TheVariants.{Equal}
use Rattle.std.specs.Cmp.{Equal-is, IsTotalOrder, nat_cmp_total, on_total, then_total, tied_itself}
use Rattle.std.specs.Cmp.Lexicographic.{lists_total, slice_cmp}
use Rattle.std.specs.FinMap.{entries, entries_sorted, get, get-entries}
use Rattle.std.specs.List.{filter, find, slice_get}
use Rattle.std.specs.Map.{keys_of}
use Rattle.std.specs.Ordering.{eq_by_cmp, is_eq, nat_cmp}
use Rattle.std.proofs.lemmas.List.Elements.{All-append, All-contains, All-contains_itself, All-filter, All-weaker, Contains-append_left, Contains-append_right, filter_passes}
use Rattle.std.proofs.lemmas.Map.Entries.{lookup_from_place}
use Rattle.std.proofs.lemmas.Map.Keys.{IsDistinct-from_sorted}
use Rattle.std.proofs.lemmas.Map.Lookups.{exact_bytes, exact_pairs, exact_unsigned}
use Rattle.std.proofs.lemmas.Cmp.{eq_by_cmp_equiv}
use Rattle.std.proofs.lemmas.Option.{get_or_from_slice_get, none-some, same_Some, slice_get_within}
use Rattle.geda_defs.proofs.Bytes.{bytes_true, bytes_same}
use Rattle.project_model.specs.declared.change.Placed.{Placed}
use Rattle.project_model.specs.Projects.{ProjectData, ids_on, is_on}
use Rattle.project_model.proofs.OrderedRows.{keys_sorted}
use Rattle.project_model.proofs.Rows.{IsKey, find_row}
use Rattle.hierarchy.specs.declared.instances.Instance.{Instance}
use Rattle.hierarchy.specs.Instances.{instances_of}
use Rattle.hierarchy.proofs.KnownLemmas.{known_by_object}
use Rattle.hierarchy.proofs.ListLemmas.{all_filter_map, all_map, all_none, contains_filter_map, contains_map}
use Rattle.instance_objects.specs.Occurrences.{FlatObject, OccurrenceData, by_occurrence, flat_object, flat_objects, object_at, occurrences, occurrences_at, occurrences_from}
use Rattle.geda_defs.specs.Order.{is_equal}
use Rattle.instance_objects.specs.steps.SheetIds.{occurrence}
use Rattle.instance_objects.proofs.FlatObjects.{flat}
use Rattle.geda_defs.proofs.OnceLaws.{find_once, is_once_in_order}
use Rattle.net_names.proofs.PlaceLemmas.{contains_filter, found, is_found, place_in}

-- occurrences are in a total order, and those that compare as equal have one route and one id
by_occurrence_total : IsTotalOrder by_occurrence
by_occurrence_total = then_total
    (on_total (λ (o : OccurrenceData). o.route) (lists_total nat_cmp_total))
    (on_total (λ (o : OccurrenceData). o.id) nat_cmp_total)

same_occurrence : (x y : OccurrenceData) → by_occurrence x y ≡ Equal → (x.route ≡ y.route) × (x.id ≡ y.id)
same_occurrence x y h =
    let both = exact_pairs (slice_cmp nat_cmp) nat_cmp exact_bytes exact_unsigned (x.route, x.id) (y.route, y.id) h in
    (ap (λ (q : List ℕ × ℕ). q.0) both, ap (λ (q : List ℕ × ℕ). q.1) both)

module _ (p : ProjectData) where
  -- the row of an object of a sheet
  abbrev IsRowOn : List ℕ → ℕ × Placed → Type 0
  IsRowOn name row = Contains (entries p.objects) row × (row.1.sheet ≡ name)

  abbrev HasRow : List ℕ → ℕ → Type 0
  HasRow name id = (row : ℕ × Placed) × IsRowOn name row × (row.0 ≡ id)

  have_rows : (name : List ℕ) → All (HasRow name) (ids_on p name)
  have_rows name =
      let rows = entries p.objects in
      let mine = filter (is_on name) rows in
      let among = All-filter (is_on name) (Contains rows) rows (All-contains_itself rows) in
      let passes = filter_passes (is_on name) rows in
      all_map (HasRow name) (λ (row : ℕ × Placed). row.0) mine
      (λ k d h. (get_or mine k d, (among k d h, bytes_same (get_or mine k d).1.sheet name (passes k d h)), refl))

  id_on_sheet : (name : List ℕ) (row : ℕ × Placed) → IsRowOn name row → Contains (ids_on p name) row.0
  id_on_sheet name row on =
      contains_map (λ (row : ℕ × Placed). row.0) (filter (is_on name) (entries p.objects)) row
      (contains_filter (is_on name) (entries p.objects) row on.0 (bytes_true row.1.sheet name on.1))

  -- a row of a project is found by its id
  found_row : (row : ℕ × Placed) → Contains (entries p.objects) row → get p.objects row.0 ≡ Some row.1
  found_row row c =
      let rows = entries p.objects in
      let laws : IsKey nat_cmp (eq_by_cmp nat_cmp) = record { total = nat_cmp_total; exact = exact_unsigned; agree = λ x y. refl } in
      let there = place_in rows row c in
      get-entries p.objects row.0 ∙ find_row laws rows row.0
      ∙ lookup_from_place (eq_by_cmp_equiv nat_cmp_total) rows there.0 row.0 row.1 (IsDistinct-from_sorted nat_cmp (keys_of rows) (keys_sorted nat_cmp rows (entries_sorted p.objects))) there.1

-- an object of the sheet of the instance at its place
record Occurs (p : ProjectData) (o : OccurrenceData) : Type 0 where
  instance : Instance
  at : slice_get (instances_of p) o.instance ≡ Some instance
  route : o.route ≡ instance.route
  on : Contains (ids_on p instance.sheet) o.id

module _ (p : ProjectData) where
  occur_from : (place : ℕ) (is : List Instance) → ((k : ℕ) → slice_get is k ≡ slice_get (instances_of p) (place + k)) → All (Occurs p) (occurrences_from p place is)
  occur_from place [] same = all_none (Occurs p)
  occur_from place (i ∷ is) same =
      let ids = ids_on p i.sheet in
      let e : place ≡ place + 0 = omega arith in
      let at : slice_get (instances_of p) place ≡ Some i = ap (slice_get (instances_of p)) e ∙ sym (same 0) in
      All-append (Occurs p) (occurrences_at p place i) (occurrences_from p (place + 1) is)
      (all_map (Occurs p) (occurrence place i) ids
      (All-weaker (Contains ids) (λ (id : ℕ). Occurs p (occurrence place i id)) (λ id on. record { instance = i; at = at; route = refl; on = on }) ids (All-contains_itself ids)))
      (occur_from (place + 1) is (λ k. let f : place + suc k ≡ place + 1 + k = omega arith in same (suc k) ∙ ap (slice_get (instances_of p)) f))

  all_occur : All (Occurs p) (occurrences_from p 0 (instances_of p))
  all_occur = occur_from 0 (instances_of p) (λ k. let e : k ≡ 0 + k = omega arith in ap (slice_get (instances_of p)) e)

  occurs_from : (place : ℕ) (is : List Instance) (k : ℕ) (i : Instance) (id : ℕ) → slice_get is k ≡ Some i → Contains (ids_on p i.sheet) id
      → Contains (occurrences_from p place is) (occurrence (place + k) i id)
  occurs_from place [] k i id at on = absurd (none-some i at)
  occurs_from place (j ∷ is) zero i id at on =
      let same : j ≡ i = same_Some j i at in
      let e : place ≡ place + 0 = omega arith in
      let first : Contains (occurrences_at p place i) (occurrence place i id) = contains_map (occurrence place i) (ids_on p i.sheet) id on in
      let here = subst (λ (q : ℕ). Contains (occurrences_at p place i) (occurrence q i id)) e first in
      Contains-append_left (occurrences_at p place j) (occurrences_from p (place + 1) is) (occurrence (place + 0) i id)
      (subst (λ (x : Instance). Contains (occurrences_at p place x) (occurrence (place + 0) i id)) (sym same) here)
  occurs_from place (j ∷ is) (suc k) i id at on =
      let e : place + 1 + k ≡ place + suc k = omega arith in
      Contains-append_right (occurrences_at p place j) (occurrences_from p (place + 1) is) (occurrence (place + suc k) i id)
      (subst (λ (q : ℕ). Contains (occurrences_from p (place + 1) is) (occurrence q i id)) e (occurs_from (place + 1) is k i id at on))

  -- none is left out: no two of them compare as equal
  occurs : (m : ℕ) (i : Instance) (id : ℕ) → slice_get (instances_of p) m ≡ Some i → Contains (ids_on p i.sheet) id → Contains (occurrences p) (occurrence m i id)
  occurs m i id at on =
      let all = occurrences_from p 0 (instances_of p) in
      let o = occurrence m i id in
      let e : 0 + m ≡ m = omega arith in
      let given : Contains all o = subst (λ (q : ℕ). Contains all (occurrence q i id)) e (occurs_from 0 (instances_of p) m i id at on) in
      let first = is_found (is_equal by_occurrence o) all o given (ap is_eq (tied_itself by_occurrence_total o)) in
      let is = found (is_equal by_occurrence o) all first.0 first.1 in
      let same = same_occurrence o first.0 ((Equal-is (by_occurrence o first.0)).0 is.1) in
      let there = All-contains (Occurs p) all first.0 all_occur is.0 in
      let mine = get_or_from_slice_get (instances_of p) m i i at in
      let other = get_or_from_slice_get (instances_of p) first.0.instance there.instance i there.at in
      let place : m ≡ first.0.instance =
      known_by_object p m first.0.instance i id (slice_get_within (instances_of p) m i at) (slice_get_within (instances_of p) first.0.instance there.instance there.at)
      (ap (λ (x : Instance). x.route) mine ∙ same.0 ∙ there.route ∙ sym (ap (λ (x : Instance). x.route) other))
      (subst (λ (x : Instance). Contains (ids_on p x.sheet) id) (sym mine) on)
      (subst (λ (x : Instance). Contains (ids_on p x.sheet) id) (sym other) (subst (λ (n : ℕ). Contains (ids_on p there.instance.sheet) n) (sym same.1) there.on)) in
      let whole : first.0 ≡ o = λ k. record { route = sym same.0 k; instance = sym place k; id = sym same.1 k } in
      subst (Contains (occurrences p)) whole (found (is_equal by_occurrence o) (occurrences p) first.0 (find_once by_occurrence_total o all ∙ first.1)).0

  -- and none is added
  listed_occur : All (Occurs p) (occurrences p)
  listed_occur =
      let all = occurrences_from p 0 (instances_of p) in
      All-weaker (λ (o : OccurrenceData). find (is_equal by_occurrence o) all ≡ Some o) (Occurs p)
      (λ o e. All-contains (Occurs p) all o all_occur (found (is_equal by_occurrence o) all o e).0) (occurrences p) (is_once_in_order by_occurrence_total all).first

-- an object of the sheet of the instance at its place
pub record IsFlat (p : ProjectData) (f : FlatObject) : Type 0 where
  pub at : slice_get (instances_of p) f.place ≡ Some f.instance
  pub row : ℕ × Placed
  pub stands : Contains (entries p.objects) row
  pub id : row.0 ≡ f.id
  pub sheet : row.1.sheet ≡ f.instance.sheet
  pub object : row.1.object ≡ f.object

module _ (p : ProjectData) where
  flat_from : (o : OccurrenceData) (f : FlatObject) → Occurs p o → object_at p o ≡ Some f → IsFlat p f
  flat_from o f there e =
      let row = All-contains (HasRow p there.instance.sheet) (ids_on p there.instance.sheet) o.id (have_rows p there.instance.sheet) there.on in
      let got : get p.objects o.id ≡ Some row.0.1 = ap (get p.objects) (sym row.2) ∙ found_row p row.0 row.1.0 in
      let made : FlatObject = flat o.instance there.instance o.id row.0.1.object in
      let is : object_at p o ≡ Some made = λ k. flat_object o.instance o.id (there.at k) (got k) in
      let same : made ≡ f = same_Some made f (sym is ∙ e) in
      let first : IsFlat p made = record { at = there.at; row = row.0; stands = row.1.0; id = row.2; sheet = row.1.1; object = refl } in
      subst (IsFlat p) same first

  -- so does each flat object
  pub are_flat : All (IsFlat p) (flat_objects p)
  are_flat = all_filter_map (Occurs p) (IsFlat p) (object_at p) flat_from (occurrences p) (listed_occur p)

  -- and each object of a sheet is there for each instance of the sheet
  pub is_flat_in : (m : ℕ) (i : Instance) (row : ℕ × Placed) → slice_get (instances_of p) m ≡ Some i → Contains (entries p.objects) row → row.1.sheet ≡ i.sheet
      → Contains (flat_objects p) (flat m i row.0 row.1.object)
  is_flat_in m i row at stands sheet =
      let got = found_row p row stands in
      let is : object_at p (occurrence m i row.0) ≡ Some (flat m i row.0 row.1.object) = λ k. flat_object m row.0 (at k) (got k) in
      contains_filter_map (object_at p) (occurrences p) (occurrence m i row.0) (flat m i row.0 row.1.object)
      (occurs p m i row.0 at (id_on_sheet p i.sheet row (stands, sheet))) is
