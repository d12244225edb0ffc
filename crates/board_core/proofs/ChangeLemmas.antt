-- The conductors of a project after a change: those that were there without those that left, and
-- those that came.
use Rattle.std.proofs.Common.{◌≡◌, inl, inr, ◌||◌, ◌&&◌, not, ℕ, ◌+◌, Bool, true, false, List, [], ◌∷◌, ◌++◌, Option, Some, None, IsSome, is_some, length, length-append, map, refl, sym, ap, subst, ◌∙◌, arith}
use Rattle.std.specs.FinMap.{entries, entries_sorted, get, get-entries}
use Rattle.std.specs.List.{sum_by}
use Rattle.std.specs.Map.{keys_of}
use Rattle.std.specs.Ordering.{eq_by_cmp, nat_cmp}
use Rattle.std.proofs.lemmas.Cmp.{eq_by_cmp_equiv, nat_cmp_total}
use Rattle.std.proofs.lemmas.Grind.{flat_map-append}
use Rattle.std.proofs.lemmas.List.Sums.{sum_by-cons}
use Rattle.std.proofs.lemmas.Map.Entries.{lookup_from_place}
use Rattle.std.proofs.lemmas.Map.Keys.{IsDistinct-from_sorted}
use Rattle.std.proofs.lemmas.Map.Lookups.{exact_unsigned}
use Rattle.std.proofs.lemmas.Option.{same_Some}
use Rattle.geda_geom.specs.declared.conductor.Conductor.{Conductor}
use Rattle.geda_geom.specs.declared.conductor.Key.{Key}
use Rattle.project_model.specs.declared.change.Placed.{Placed}
use Rattle.project_model.specs.declared.change.Thing.{Thing}
use Rattle.project_model.specs.declared.change.Thing.TheVariants as things
use Rattle.project_model.specs.declared.change.Value.TheVariants as values
use Rattle.project_model.specs.Items.{Item}
use Rattle.project_model.specs.Projects.{ProjectData}
use Rattle.project_model.specs.Changes.{AreDistinct, put}
use Rattle.project_model.proofs.OrderedRows.{keys_sorted}
use Rattle.project_model.proofs.Rows.{IsKey, find_row}
use Rattle.group_runs.specs.Runs.{AreFree, AreThere, Coming, Leaving, SheetName, with_all, without}
use Rattle.sheet_groups.specs.Conductors.{SheetConductor, conductors_at, sheet_conductor, sheet_conductors}
use Rattle.board_core.specs.Changed.{has_symbol_of, has_thing, is_changed, is_object}
use Rattle.board_core.specs.Bounds.{coming_count, given_count, is_renewed}
use Rattle.board_core.specs.steps.Standing.{changed_rows, come, coming_drawn, coming_rows, drawn_in, given_row, given_rows, leave, leaving_drawn, on_sheet, renewed_rows}
use Rattle.board_core.specs.steps.Members.{Distinct, In}
use Rattle.board_core.proofs.MemberLemmas.{at_place, distinct_append, distinct_filter, filtered, flat, found, in_either, in_filter, in_flat, in_found, in_left, in_map, in_right, mapped, IsFlat}
use Rattle.board_core.proofs.PutLemmas.{Stays, drawn_stays, given_has, given_or_stays, given_own, given_stands, in_entries, objects_apart, things_distinct}
use Rattle.board_core.proofs.StandLemmas.{are_free, are_there, same_conductors, with_cases, with_has, with_keeps, without_cases, without_keeps}
use Rattle.board_core.proofs.DrawnLemmas.{came, coming_distinct, conductor, id_of, ids_at, ids_distinct, keys_distinct, leaving_distinct, project_keys, stands, stood}

-- ids are told apart by their order
id_laws : IsKey nat_cmp (eq_by_cmp nat_cmp)
id_laws = record { total = nat_cmp_total; exact = exact_unsigned; agree = λ x y. refl }

-- a row among the entries is that of its id
pub row_there : (p : ProjectData) (row : ℕ × Placed) → In row (entries p.objects) → get p.objects row.0 ≡ Some row.1
row_there p row h =
    let at = at_place row (entries p.objects) h in
    get-entries p.objects row.0 ∙ find_row id_laws (entries p.objects) row.0
    ∙ lookup_from_place (eq_by_cmp_equiv nat_cmp_total) (entries p.objects) at.0 row.0 row.1 (IsDistinct-from_sorted nat_cmp (keys_of (entries p.objects)) (keys_sorted nat_cmp (entries p.objects) (entries_sorted p.objects))) at.1

-- the change has the object of a row, or its symbol
pub changed_own : (items : List Item) (row : ℕ × Placed) → has_thing (is_object row.0) items ≡ true → is_changed items row ≡ true
changed_own items row e = ap (λ b. b || has_symbol_of items row.1.object) e

pub changed_symbol : (items : List Item) (row : ℕ × Placed) → has_symbol_of items row.1.object ≡ true → is_changed items row ≡ true
changed_symbol items row e = by (has_thing (is_object row.0) items) e
  where
    by : (b : Bool) → has_symbol_of items row.1.object ≡ true → (b || has_symbol_of items row.1.object) ≡ true
    by true e = refl
    by false e = e

unchanged : (items : List Item) (row : ℕ × Placed) → is_changed items row ≡ false → (has_thing (is_object row.0) items ≡ false) × (has_symbol_of items row.1.object ≡ false)
unchanged items row e = by (has_thing (is_object row.0) items) (has_symbol_of items row.1.object) e
  where
    by : (a b : Bool) → (a || b) ≡ false → (a ≡ false) × (b ≡ false)
    by true b e = absurd (cc e)
    by false b e = (refl, e)

pub renewed_parts : (items : List Item) (row : ℕ × Placed) → is_renewed items row ≡ true → (has_thing (is_object row.0) items ≡ false) × (has_symbol_of items row.1.object ≡ true)
renewed_parts items row e = by (has_thing (is_object row.0) items) e
  where
    by : (a : Bool) → (not a && has_symbol_of items row.1.object) ≡ true → (a ≡ false) × (has_symbol_of items row.1.object ≡ true)
    by true e = absurd (cc e)
    by false e = (refl, e)

module _ (p : ProjectData) (items : List Item) where
  -- an object that comes is changed, where it was there
  pub coming_changed : (row : ℕ × Placed) (before : Placed) → In row (coming_rows p items) → get p.objects row.0 ≡ Some before → is_changed items (row.0, before) ≡ true
  coming_changed row before h e = elim (in_either row (given_rows items) (renewed_rows p items) h) [
    | inl g ↦
        let f = found given_row row items g in
        changed_own items (row.0, before) (given_own items row.0 row.1 (record { item = f.of; there = f.there; gives = f.is }))
    | inr r ↦
        let f = filtered (is_renewed items) row (entries p.objects) r in
        let same : row.1 ≡ before = same_Some row.1 before (sym (row_there p row f.0) ∙ e) in
        changed_symbol items (row.0, before) (ap (λ (placed : Placed). has_symbol_of items placed.object) (sym same) ∙ (renewed_parts items row f.1).1)
  ]

  -- the conductors of a changed object leave
  changed_leave : (row : ℕ × Placed) (c : SheetConductor) → In row (entries p.objects) → is_changed items row ≡ true → In c (conductors_at p row) → In (leave c) (map leave (leaving_drawn p items))
  changed_leave row c there is h =
      in_map leave c (leaving_drawn p items) (in_flat (conductors_at p) row c (changed_rows p items) (in_filter (is_changed items) row (entries p.objects) there is) h)

  -- a conductor that leaves is one of a changed object
  pub left_of : (l : Leaving) → In l (map leave (leaving_drawn p items)) → (row : ℕ × Placed) × (c : SheetConductor) × In row (entries p.objects) × (is_changed items row ≡ true) × In c (conductors_at p row) × (leave c ≡ l)
  left_of l h =
      let m = mapped leave l (leaving_drawn p items) h in
      let f = flat (conductors_at p) m.of (changed_rows p items) m.there in
      let g = filtered (is_changed items) f.of (entries p.objects) f.there in
      (f.of, m.of, g.0, g.1, f.has, m.is)

  -- those of an object that is not changed stay
  stays : (row : ℕ × Placed) (c : SheetConductor) → In row (entries p.objects) → is_changed items row ≡ false → In c (conductors_at p row) → In (leave c) (map leave (leaving_drawn p items)) → ⊥
  stays row c there is has h =
      let l = left_of (leave c) h in
      let id : l.0.0 ≡ row.0 = sym (id_of p l.0 l.1 l.4) ∙ ap (λ (x : Leaving). x.1.id) l.5 ∙ id_of p row c has in
      let same : l.0.1 ≡ row.1 = same_Some l.0.1 row.1 (sym (row_there p l.0 l.2) ∙ ap (get p.objects) id ∙ row_there p row there) in
      let clash : true ≡ false = sym l.3 ∙ ap (is_changed items) (λ i. (id i, same i)) ∙ is in
      absurd (cc)

  pub leaving_once : Distinct (map leave (leaving_drawn p items))
  leaving_once =
      leaving_distinct (leaving_drawn p items)
      (keys_distinct p (changed_rows p items) (distinct_filter (λ (row : ℕ × Placed). row.0) (is_changed items) (entries p.objects) (ids_distinct p.objects)))

  -- those that leave are there
  pub leaving_there : AreThere (on_sheet p) (map leave (leaving_drawn p items))
  leaving_there = are_there (on_sheet p) (map leave (leaving_drawn p items)) there leaving_once
    where
      there : (l : Leaving) → In l (map leave (leaving_drawn p items)) → IsSome (get (on_sheet p l.0) l.1)
      there l h =
          let x = left_of l h in
          let here = stands (sheet_conductors p) (project_keys p) x.1 (in_flat (conductors_at p) x.0 x.1 (entries p.objects) x.2 x.4) in
          subst (λ (m : Leaving). IsSome (get (on_sheet p m.0) m.1)) x.5 (ap is_some here)

  given_id : (row : ℕ × Placed) (some : List Item) → In row (given_rows some) → In (things.Object row.0) (map (λ (item : Item). item.0) some)
  given_id row some h =
      let f = found given_row row some h in
      subst (λ (t : Thing). In t (map (λ (item : Item). item.0) some)) (ap (λ (item : Item). item.0) (given_has f.of row.0 row.1 f.is)) (in_map (λ (item : Item). item.0) f.of some f.there)

  given_once : (some : List Item) → Distinct (map (λ (item : Item). item.0) some) → Distinct (ids_at (given_rows some))
  given_once [] d = tt
  given_once (x ∷ some) d = by (given_once some d.1) (given_row x) refl
    where
      by : Distinct (ids_at (given_rows some)) → (o : Option (ℕ × Placed)) → given_row x ≡ o → Distinct (ids_at (given_rows (x ∷ some)))
      by rest None e = rw e rest
      by rest (Some row) e = rw e (
        λ h.
            let m = mapped (λ (r : ℕ × Placed). r.0) row.0 (given_rows some) h in
            let is : things.Object m.of.0 ≡ x.0 = ap things.Object m.is ∙ sym (ap (λ (item : Item). item.0) (given_has x row.0 row.1 e)) in
            d.0 (subst (λ (t : Thing). In t (map (λ (item : Item). item.0) some)) is (given_id m.of some m.there)),
        rest,
      )

  module _ (once : AreDistinct items) where
    coming_ids : Distinct (ids_at (coming_rows p items))
    coming_ids =
        subst Distinct (sym (append_ids (given_rows items) (renewed_rows p items)))
        (distinct_append (ids_at (given_rows items)) (ids_at (renewed_rows p items)) (given_once items (things_distinct items once))
        (distinct_filter (λ (row : ℕ × Placed). row.0) (is_renewed items) (entries p.objects) (ids_distinct p.objects)) apart)
      where
        append_ids : (xs ys : List (ℕ × Placed)) → ids_at (xs ++ ys) ≡ ids_at xs ++ ids_at ys
        append_ids [] ys = refl
        append_ids (x ∷ xs) ys = ap (◌∷◌ x.0) (append_ids xs ys)

        apart : (id : ℕ) → In id (ids_at (given_rows items)) → In id (ids_at (renewed_rows p items)) → ⊥
        apart id first second =
            let m = mapped (λ (row : ℕ × Placed). row.0) id (given_rows items) first in
            let n = mapped (λ (row : ℕ × Placed). row.0) id (renewed_rows p items) second in
            let f = found given_row m.of items m.there in
            let own = given_own items m.of.0 m.of.1 (record { item = f.of; there = f.there; gives = f.is }) in
            let other = (renewed_parts items n.of (filtered (is_renewed items) n.of (entries p.objects) n.there).1).0 in
            let clash : true ≡ false = sym own ∙ ap (λ (i : ℕ). has_thing (is_object i) items) (m.is ∙ sym n.is) ∙ other in
            absurd (cc)

    pub coming_once : Distinct (map (λ (c : Coming). c.1.0) (map come (coming_drawn p items)))
    coming_once = coming_distinct (coming_drawn p items) (keys_distinct (put p items) (coming_rows p items) coming_ids)

    -- the keys of those that come are free when the others have left
    pub coming_free : AreFree (without (on_sheet p) (map leave (leaving_drawn p items))) (map come (coming_drawn p items))
    coming_free = are_free (without (on_sheet p) (map leave (leaving_drawn p items))) (map come (coming_drawn p items)) free coming_once
      where
        ls : List Leaving
        ls = map leave (leaving_drawn p items)

        taken : (c : Coming) (v : Conductor) → In c (map come (coming_drawn p items)) → get (without (on_sheet p) ls c.0) c.1.0 ≡ Some v → ⊥
        taken c v h e =
            let w = without_cases (on_sheet p) ls c.0 c.1.0 v e in
            let old = stood (sheet_conductors p) (project_keys p) c.0 c.1.0 v w.0 in
            let f = flat (conductors_at p) (conductor c.0 c.1.0 v) (entries p.objects) old in
            let m = mapped come c (coming_drawn p items) h in
            let g = flat (conductors_at (put p items)) m.of (coming_rows p items) m.there in
            let id : g.of.0 ≡ f.of.0 = sym (id_of (put p items) g.of m.of g.has) ∙ ap (λ (x : Coming). x.1.0.id) m.is ∙ id_of p f.of (conductor c.0 c.1.0 v) f.has in
            let is = coming_changed g.of f.of.1 g.there (ap (get p.objects) id ∙ row_there p f.of f.there) in
            w.1 (changed_leave f.of (conductor c.0 c.1.0 v) f.there (ap (λ (i : ℕ). is_changed items (i, f.of.1)) (sym id) ∙ is) f.has)

        free : (c : Coming) → In c (map come (coming_drawn p items)) → get (without (on_sheet p) ls c.0) c.1.0 ≡ None
        free c h = by (get (without (on_sheet p) ls c.0) c.1.0) refl
          where
            by : (o : Option Conductor) → get (without (on_sheet p) ls c.0) c.1.0 ≡ o → get (without (on_sheet p) ls c.0) c.1.0 ≡ None
            by None e = e
            by (Some v) e = absurd (taken c v h e)

    module _ (s : SheetName) (k : Key) (v : Conductor) where
      to : get (on_sheet (put p items) s) k ≡ Some v → get (with_all (without (on_sheet p) (map leave (leaving_drawn p items))) (map come (coming_drawn p items)) s) k ≡ Some v
      to e = of (flat (conductors_at (put p items)) (conductor s k v) (entries (put p items).objects) (stood (sheet_conductors (put p items)) (project_keys (put p items)) s k v e))
        where
          comes : (row : ℕ × Placed) → In (conductor s k v) (conductors_at (put p items) row) → In row (coming_rows p items)
              → get (with_all (without (on_sheet p) (map leave (leaving_drawn p items))) (map come (coming_drawn p items)) s) k ≡ Some v
          comes row has h = with_has (without (on_sheet p) (map leave (leaving_drawn p items))) (map come (coming_drawn p items)) coming_free s k v
              (in_map come (conductor s k v) (coming_drawn p items) (in_flat (conductors_at (put p items)) row (conductor s k v) (coming_rows p items) h has))

          by : (row : ℕ × Placed) → In (conductor s k v) (conductors_at (put p items) row) → (b : Bool) → has_symbol_of items row.1.object ≡ b → Stays p items row.0 row.1
              → get (with_all (without (on_sheet p) (map leave (leaving_drawn p items))) (map come (coming_drawn p items)) s) k ≡ Some v
          by row has true t st =
              comes row has (in_right row (given_rows items) (renewed_rows p items) (in_filter (is_renewed items) row (entries p.objects) (in_entries p.objects row.0 row.1 st.1) (ap (λ b. not b && has_symbol_of items row.1.object) st.0 ∙ t)))
          by row has false t st =
              let there = in_entries p.objects row.0 row.1 st.1 in
              let had : In (conductor s k v) (conductors_at p row) = subst (λ (drawn : List (ℕ × Conductor)). In (conductor s k v) (map (sheet_conductor row) drawn)) (drawn_stays p items row.1.object t) has in
              let plain : is_changed items row ≡ false = ap (λ b. b || has_symbol_of items row.1.object) st.0 ∙ t in
              with_keeps (without (on_sheet p) (map leave (leaving_drawn p items))) (map come (coming_drawn p items)) coming_free s k v
              (without_keeps (on_sheet p) (map leave (leaving_drawn p items)) s k v
              (stands (sheet_conductors p) (project_keys p) (conductor s k v) (in_flat (conductors_at p) row (conductor s k v) (entries p.objects) there had))
              (stays row (conductor s k v) there plain had))

          of : IsFlat (conductors_at (put p items)) (conductor s k v) (entries (put p items).objects)
              → get (with_all (without (on_sheet p) (map leave (leaving_drawn p items))) (map come (coming_drawn p items)) s) k ≡ Some v
          of f = elim (given_or_stays p items f.of.0 f.of.1 (row_there (put p items) f.of f.there)) [
            | inl g ↦ comes f.of f.has (in_left f.of (given_rows items) (renewed_rows p items) (in_found given_row g.item f.of items g.there g.gives))
            | inr st ↦ by f.of f.has (has_symbol_of items f.of.1.object) refl st
          ]

      back : get (with_all (without (on_sheet p) (map leave (leaving_drawn p items))) (map come (coming_drawn p items)) s) k ≡ Some v → get (on_sheet (put p items) s) k ≡ Some v
      back e = elim (with_cases (without (on_sheet p) (map leave (leaving_drawn p items))) (map come (coming_drawn p items)) coming_free s k v e) [
        | inr h ↦ come_back (flat (conductors_at (put p items)) (conductor s k v) (coming_rows p items) (came (coming_drawn p items) s k v h))
        | inl w ↦
            let x = without_cases (on_sheet p) (map leave (leaving_drawn p items)) s k v w in
            stay_back x.1 (flat (conductors_at p) (conductor s k v) (entries p.objects) (stood (sheet_conductors p) (project_keys p) s k v x.0))
      ]
        where
          after : (row : ℕ × Placed) → get (put p items).objects row.0 ≡ Some row.1 → In (conductor s k v) (conductors_at (put p items) row) → get (on_sheet (put p items) s) k ≡ Some v
          after row there has =
              stands (sheet_conductors (put p items)) (project_keys (put p items)) (conductor s k v)
              (in_flat (conductors_at (put p items)) row (conductor s k v) (entries (put p items).objects) (in_entries (put p items).objects row.0 row.1 there) has)

          come_back : IsFlat (conductors_at (put p items)) (conductor s k v) (coming_rows p items) → get (on_sheet (put p items) s) k ≡ Some v
          come_back g = elim (in_either g.of (given_rows items) (renewed_rows p items) g.there) [
            | inl h ↦ let x = found given_row g.of items h in after g.of (given_stands p items g.of.0 g.of.1 (things_distinct items once) x.of x.there x.is) g.has
            | inr h ↦
                let x = filtered (is_renewed items) g.of (entries p.objects) h in
                after g.of (objects_apart p items g.of.0 (renewed_parts items g.of x.1).0 ∙ row_there p g.of x.0) g.has
          ]

          stay_back : (In (s, k) (map leave (leaving_drawn p items)) → ⊥) → IsFlat (conductors_at p) (conductor s k v) (entries p.objects) → get (on_sheet (put p items) s) k ≡ Some v
          stay_back none g = by (is_changed items g.of) refl
            where
              by : (b : Bool) → is_changed items g.of ≡ b → get (on_sheet (put p items) s) k ≡ Some v
              by true t = absurd (none (changed_leave g.of (conductor s k v) g.there t g.has))
              by false t =
                  let parts = unchanged items g.of t in
                  after g.of (objects_apart p items g.of.0 parts.0 ∙ row_there p g.of g.there)
                  (subst (λ (drawn : List (ℕ × Conductor)). In (conductor s k v) (map (sheet_conductor g.of) drawn)) (sym (drawn_stays p items g.of.1.object parts.1)) g.has)

    -- the conductors of each sheet after a change
    pub on_sheet-put : (s : SheetName) → on_sheet (put p items) s ≡ with_all (without (on_sheet p) (map leave (leaving_drawn p items))) (map come (coming_drawn p items)) s
    on_sheet-put s =
        same_conductors (on_sheet (put p items) s) (with_all (without (on_sheet p) (map leave (leaving_drawn p items))) (map come (coming_drawn p items)) s)
        (λ k v. to s k v) (λ k v. back s k v)

  -- as many come as are counted
  given_counted : (some : List Item) → sum_by (given_count (put p items)) some ≡ length (drawn_in (put p items) (given_rows some))
  given_counted [] = refl
  given_counted (x ∷ some) = by (given_counted some) x
    where
      by : sum_by (given_count (put p items)) some ≡ length (drawn_in (put p items) (given_rows some)) → (y : Item)
          → sum_by (given_count (put p items)) (y ∷ some) ≡ length (drawn_in (put p items) (given_rows (y ∷ some)))
      by rest (things.Object id, None) = rest
      by rest (things.Object id, Some (values.Object placed)) =
          let long = length-append (conductors_at (put p items) (id, placed)) (drawn_in (put p items) (given_rows some)) in
          sum_by-cons (given_count (put p items)) (things.Object id, Some (values.Object placed)) some ∙ ap (λ (n : ℕ). length (conductors_at (put p items) (id, placed)) + n) rest ∙ sym long
      by rest (things.Object id, Some (values.Head head)) = rest
      by rest (things.Object id, Some (values.Symbol symbol)) = rest
      by rest (things.SheetName name, value) = rest
      by rest (things.SymbolName name, value) = rest

  pub coming_counted : length (coming_drawn p items) ≡ coming_count p items
  coming_counted =
      let parts = ap length (flat_map-append (conductors_at (put p items)) (given_rows items) (renewed_rows p items)) in
      let long = length-append (drawn_in (put p items) (given_rows items)) (drawn_in (put p items) (renewed_rows p items)) in
      let given = given_counted items in
      omega (arith, parts, long, given)
