-- The conductors of objects: each key stands once.
use Rattle.std.proofs.Common.{◌≡◌, inl, inr, ℕ, List, [], ◌∷◌, Some, map, refl, sym, ap, subst, ◌∙◌}
use Rattle.std.specs.FinMap.{FinMap, empty, entries, entries_sorted, get, get-empty}
use Rattle.std.specs.List.{AllByRecursion}
use Rattle.std.specs.List.Sorted.{IsStrictlySortedBy}
use Rattle.std.specs.Cmp.{nat_cmp_is}
use Rattle.std.specs.declared.cmp.Ordering.{Ordering}
use Rattle.std.specs.declared.cmp.Ordering.TheVariants.{Less, Equal}
use Rattle.std.specs.Ordering.{nat_cmp, ordering_then}
use Rattle.std.proofs.lemmas.List.{map-append}
use Rattle.std.proofs.lemmas.Option.{none-some}
use Rattle.geda_geom.specs.declared.conductor.Conductor.{Conductor}
use Rattle.geda_geom.specs.declared.conductor.Key.{Key}
use Rattle.geda_geom.specs.Keys.{by_key}
use Rattle.project_model.specs.declared.change.Placed.{Placed}
use Rattle.project_model.specs.Projects.{ProjectData}
use Rattle.project_model.proofs.OrderedRows.{keys_sorted}
use Rattle.attr_rules.specs.Libraries.{library_of}
use Rattle.pin_place.specs.Pins.{conductors_of}
use Rattle.group_runs.specs.Runs.{AreFree, Coming, Leaving, SheetName}
use Rattle.sheet_groups.specs.Conductors.{SheetConductor, conductors_at, sheet_conductor, sheet_conductors}
use Rattle.sheet_groups.proofs.OrderLemmas.{places_of, places_rise}
use Rattle.board_core.specs.steps.Standing.{by_sheet, come, drawn_in, leave}
use Rattle.board_core.specs.steps.Members.{Distinct, In}
use Rattle.board_core.proofs.MemberLemmas.{distinct_append, distinct_map, flat, in_map, mapped}
use Rattle.board_core.proofs.StandLemmas.{are_free, with_cases, with_has}

-- the keys of conductors
abbrev pub keys_at : List SheetConductor → List Key
keys_at cs = map (λ (c : SheetConductor). c.key) cs

-- the ids of objects
abbrev pub ids_at : List (ℕ × Placed) → List ℕ
ids_at rows = map (λ (row : ℕ × Placed). row.0) rows

pub all_in : {X : Type 0} (P : X → Type 0) (xs : List X) (x : X) → AllByRecursion P xs → In x xs → P x
all_in P [] x h k = absurd k
all_in P (y ∷ ys) x h (inl e) = subst P e h.0
all_in P (y ∷ ys) x h (inr k) = all_in P ys x h.1 k

-- numbers that rise are distinct
rising_distinct : (xs : List ℕ) → IsStrictlySortedBy nat_cmp xs → Distinct xs
unfolding IsStrictlySortedBy
rising_distinct [] h = tt
rising_distinct (x ∷ xs) h = (
  λ k. (let less : nat_cmp x x ≡ Less = all_in (λ y. nat_cmp x y ≡ Less) xs x h.0 k in let same : Equal ≡ Less = nat_cmp_is x x Equal refl ∙ less in absurd (cc)),
  rising_distinct xs h.1,
)

pub key_itself : (k : Key) → by_key k k ≡ Equal
key_itself k = ap (λ (r : Ordering). ordering_then r (nat_cmp k.place k.place)) (sym (nat_cmp_is k.id k.id Equal refl)) ∙ sym (nat_cmp_is k.place k.place Equal refl)

-- keys that rise are distinct
pub keys_rise_distinct : (ks : List Key) → IsStrictlySortedBy by_key ks → Distinct ks
unfolding IsStrictlySortedBy
keys_rise_distinct [] h = tt
keys_rise_distinct (k ∷ ks) h = (
  λ m. (let less : by_key k k ≡ Less = all_in (λ q. by_key k q ≡ Less) ks k h.0 m in let same : Equal ≡ Less = sym (key_itself k) ∙ less in absurd (cc)),
  keys_rise_distinct ks h.1,
)

-- no id stands twice
pub ids_distinct : (m : FinMap nat_cmp Placed) → Distinct (ids_at (entries m))
ids_distinct m = rising_distinct (ids_at (entries m)) (keys_sorted nat_cmp (entries m) (entries_sorted m))

module _ (p : ProjectData) where
  places_same : (row : ℕ × Placed) (drawn : List (ℕ × Conductor)) → map (λ (k : Key). k.place) (keys_at (map (sheet_conductor row) drawn)) ≡ places_of drawn
  places_same row [] = refl
  places_same row (d ∷ ds) = ap (◌∷◌ d.0) (places_same row ds)

  object_keys : (row : ℕ × Placed) → Distinct (keys_at (conductors_at p row))
  object_keys row =
      let drawn = conductors_of row.1.object (library_of p row.1.object) in
      distinct_map (λ (k : Key). k.place) (keys_at (conductors_at p row))
      (subst Distinct (sym (places_same row drawn)) (rising_distinct (places_of drawn) (places_rise row.1.object (library_of p row.1.object))))

  -- a conductor has the id of its object, and its sheet
  pub id_of : (row : ℕ × Placed) (c : SheetConductor) → In c (conductors_at p row) → c.key.id ≡ row.0
  id_of row c h =
      let m = mapped (sheet_conductor row) c (conductors_of row.1.object (library_of p row.1.object)) h in
      sym (ap (λ (d : SheetConductor). d.key.id) m.is)

  pub sheet_of : (row : ℕ × Placed) (c : SheetConductor) → In c (conductors_at p row) → c.sheet ≡ row.1.sheet
  sheet_of row c h =
      let m = mapped (sheet_conductor row) c (conductors_of row.1.object (library_of p row.1.object)) h in
      sym (ap (λ (d : SheetConductor). d.sheet) m.is)

  id_there : (rows : List (ℕ × Placed)) (c : SheetConductor) → In c (drawn_in p rows) → In c.key.id (ids_at rows)
  id_there rows c h =
      let f = flat (conductors_at p) c rows h in
      subst (λ (i : ℕ). In i (ids_at rows)) (sym (id_of f.of c f.has)) (in_map (λ (row : ℕ × Placed). row.0) f.of rows f.there)

  -- the keys of objects under ids that stand once
  pub keys_distinct : (rows : List (ℕ × Placed)) → Distinct (ids_at rows) → Distinct (keys_at (drawn_in p rows))
  keys_distinct [] d = tt
  keys_distinct (row ∷ rows) d =
      subst Distinct (sym (map-append (λ (c : SheetConductor). c.key) (conductors_at p row) (drawn_in p rows)))
      (distinct_append (keys_at (conductors_at p row)) (keys_at (drawn_in p rows)) (object_keys row) (keys_distinct rows d.1) apart)
    where
      apart : (k : Key) → In k (keys_at (conductors_at p row)) → In k (keys_at (drawn_in p rows)) → ⊥
      apart k first second =
          let m = mapped (λ (c : SheetConductor). c.key) k (conductors_at p row) first in
          let n = mapped (λ (c : SheetConductor). c.key) k (drawn_in p rows) second in
          let same : n.of.key.id ≡ row.0 = ap (λ (x : Key). x.id) (n.is ∙ sym m.is) ∙ id_of row m.of m.there in
          d.0 (subst (λ (i : ℕ). In i (ids_at rows)) same (id_there rows n.of n.there))

keys_come : (cs : List SheetConductor) → map (λ (c : Coming). c.1.0) (map come cs) ≡ keys_at cs
keys_come [] = refl
keys_come (c ∷ cs) = ap (◌∷◌ c.key) (keys_come cs)

keys_leave : (cs : List SheetConductor) → map (λ (l : Leaving). l.1) (map leave cs) ≡ keys_at cs
keys_leave [] = refl
keys_leave (c ∷ cs) = ap (◌∷◌ c.key) (keys_leave cs)

-- conductors with distinct keys come and leave by distinct keys
pub coming_distinct : (cs : List SheetConductor) → Distinct (keys_at cs) → Distinct (map (λ (c : Coming). c.1.0) (map come cs))
coming_distinct cs d = subst Distinct (sym (keys_come cs)) d

pub leaving_distinct : (cs : List SheetConductor) → Distinct (keys_at cs) → Distinct (map leave cs)
leaving_distinct cs d = distinct_map (λ (l : Leaving). l.1) (map leave cs) (subst Distinct (sym (keys_leave cs)) d)

-- a conductor by its sheet, its key and its shape
abbrev pub conductor : SheetName → Key → Conductor → SheetConductor
conductor s k v = record { sheet = s; key = k; shape = v }

-- the member of a list of coming conductors, as one of a sheet
pub came : (cs : List SheetConductor) (s : SheetName) (k : Key) (v : Conductor) → In (s, (k, v)) (map come cs) → In (conductor s k v) cs
came cs s k v h =
    let m = mapped come (s, (k, v)) cs h in
    subst (λ (c : SheetConductor). In c cs) (ap (λ (x : Coming). conductor x.0 x.1.0 x.1.1) m.is) m.there

-- conductors with distinct keys, sheet by sheet
module _ (cs : List SheetConductor) (d : Distinct (keys_at cs)) where
  pub all_free : AreFree (λ s. empty) (map come cs)
  all_free = are_free (λ s. empty) (map come cs) (λ c h. get-empty by_key c.1.0) (coming_distinct cs d)

  pub stands : (c : SheetConductor) → In c cs → get (by_sheet cs c.sheet) c.key ≡ Some c.shape
  stands c h = with_has (λ s. empty) (map come cs) all_free c.sheet c.key c.shape (in_map come c cs h)

  pub stood : (s : SheetName) (k : Key) (v : Conductor) → get (by_sheet cs s) k ≡ Some v → In (conductor s k v) cs
  stood s k v e = elim (with_cases (λ s. empty) (map come cs) all_free s k v e) [
    | inl before ↦ absurd (none-some v (sym (get-empty by_key k) ∙ before))
    | inr h ↦ came cs s k v h
  ]

-- the keys of a project stand once
pub project_keys : (p : ProjectData) → Distinct (keys_at (sheet_conductors p))
project_keys p = keys_distinct p (entries p.objects) (ids_distinct p.objects)
