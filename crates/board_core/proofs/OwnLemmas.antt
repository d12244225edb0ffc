-- The objects of a change, by id: looked up one by one, or told from all those of the project.
use Rattle.std.proofs.Common.{◌≡◌, ◌&&◌, ◌||◌, inl, inr, ℕ, ◌<◌, Bool, true, false, cond, not, List, [], ◌∷◌, ◌++◌, Option, Some, None, filter, map, refl, sym, ap, subst, ◌∙◌, arith}
use Rattle.std.specs.BTreeSet.{BTreeSet, contains}
use Rattle.std.specs.FinMap.{entries, entries_sorted, get}
use Rattle.std.specs.List.Sorted.{IsStrictlySortedBy}
use Rattle.std.specs.Option.{option_map}
use Rattle.std.specs.Ordering.{nat_cmp}
use Rattle.std.specs.declared.cmp.Ordering.TheVariants.{Less, Equal, Greater}
use Rattle.std.specs.Cmp.{nat_cmp_is}
use Rattle.std.specs.Prelude.{nat_lt}
use Rattle.std.proofs.lemmas.Cmp.{nat_cmp_total}
use Rattle.std.proofs.lemmas.Map.Lookups.{exact_unsigned}
use Rattle.std.proofs.lemmas.Map.Views.{btree_set_contains_iff}
use Rattle.geda_model.specs.declared.object.Body.{Body}
use Rattle.geda_model.specs.declared.object.Body.TheVariants as bodies
use Rattle.geda_model.specs.Shapes.{PartData}
use Rattle.geda_model.specs.Sheets.{ObjectData}
use Rattle.project_model.specs.declared.change.Placed.{Placed}
use Rattle.project_model.specs.Items.{Item}
use Rattle.project_model.specs.Projects.{ProjectData}
use Rattle.project_model.specs.Changes.{put}
use Rattle.project_model.proofs.OrderedRows.{keys_sorted}
use Rattle.sheet_groups.specs.Conductors.{conductors_at, sheet_conductor}
use Rattle.board_core.specs.Bounds.{is_renewed}
use Rattle.board_core.specs.Changed.{has_symbol, has_symbol_of, has_thing, is_changed, is_object}
use Rattle.board_core.specs.steps.ChangedThings.{HasNoSymbol}
use Rattle.board_core.specs.steps.Members.{In}
use Rattle.board_core.specs.steps.Standing.{drawn_in, found_row, found_rows, own_rows}
use Rattle.board_core.proofs.MemberLemmas.{contains_in, filtered, found, in_contains, in_filter, in_found}
use Rattle.board_core.proofs.PutLemmas.{drawn_stays, in_entries}
use Rattle.board_core.proofs.ChangeLemmas.{row_there}
use Rattle.board_core.proofs.DrawnLemmas.{all_in, ids_at}

-- what is less is below
nat_cmp_less : (a b : ℕ) → nat_cmp a b ≡ Less → a < b
nat_cmp_less a b e = by (nat_lt a b) refl
  where
    more : (t : Bool) → nat_lt b a ≡ t → nat_lt a b ≡ false → a < b
    more true t f = absurd (let lt : b < a = search (t, arith) in let clash : Greater ≡ Less = nat_cmp_is a b Greater lt ∙ e in cc)
    more false t f = absurd (let same : a ≡ b = search (t, f, arith) in let clash : Equal ≡ Less = nat_cmp_is a b Equal same ∙ e in cc)

    by : (t : Bool) → nat_lt a b ≡ t → a < b
    by true t = search (t, arith)
    by false t = more (nat_lt b a) refl t

-- the ids rise
abbrev Ascends : List (ℕ × Placed) → Type 0
Ascends [] = Unit {0}
Ascends (x ∷ xs) = ((y : ℕ × Placed) → In y xs → x.0 < y.0) × Ascends xs

in_ids : (row : ℕ × Placed) (rows : List (ℕ × Placed)) → In row rows → In row.0 (ids_at rows)
in_ids row [] h = absurd h
in_ids row (x ∷ rows) (inl e) = inl (ap (λ (r : ℕ × Placed). r.0) e)
in_ids row (x ∷ rows) (inr h) = inr (in_ids row rows h)

ascends_sorted : (rows : List (ℕ × Placed)) → IsStrictlySortedBy nat_cmp (ids_at rows) → Ascends rows
unfolding IsStrictlySortedBy
ascends_sorted [] h = tt
ascends_sorted (x ∷ rows) h = (λ y k. nat_cmp_less x.0 y.0 (all_in (λ i. nat_cmp x.0 i ≡ Less) (ids_at rows) y.0 h.0 (in_ids y rows k)), ascends_sorted rows h.1)

ascends_filter : (t : ℕ × Placed → Bool) (rows : List (ℕ × Placed)) → Ascends rows → Ascends (filter t rows)
ascends_filter t [] h = tt
ascends_filter t (x ∷ rows) h = by (ascends_filter t rows h.1) (t x) refl
  where
    by : Ascends (filter t rows) → (b : Bool) → t x ≡ b → Ascends (filter t (x ∷ rows))
    by rest true e = rw e (λ y k. h.0 y (filtered t y rows k).0, rest)
    by rest false e = rw e rest

found_id : (p : ProjectData) (row : ℕ × Placed) (ids : List ℕ) → In row (found_rows p ids) → In row.0 ids × (get p.objects row.0 ≡ Some row.1)
found_id p row ids h =
    let f = found (found_row p) row ids h in
    by f.of f.there (get p.objects f.of) refl f.is
  where
    by : (id : ℕ) → In id ids → (o : Option Placed) → get p.objects id ≡ o → option_map (λ placed. (id, placed)) (get p.objects id) ≡ Some row → In row.0 ids × (get p.objects row.0 ≡ Some row.1)
    by id there None e is = absurd (let q : ◌≡◌ {A = Option (ℕ × Placed)} None (Some row) = sym (ap (option_map (λ placed. (id, placed))) e) ∙ is in cc)
    by id there (Some placed) e is =
        let same : (id, placed) ≡ row = let q : ◌≡◌ {A = Option (ℕ × Placed)} (Some (id, placed)) (Some row) = sym (ap (option_map (λ placed. (id, placed))) e) ∙ is in cc in
        (subst (λ (r : ℕ × Placed). In r.0 ids) same there, subst (λ (r : ℕ × Placed). get p.objects r.0 ≡ Some r.1) same e)

ascends_found : (p : ProjectData) (ids : List ℕ) → IsStrictlySortedBy nat_cmp ids → Ascends (found_rows p ids)
unfolding IsStrictlySortedBy
ascends_found p [] h = tt
ascends_found p (id ∷ ids) h = by (ascends_found p ids h.1) (get p.objects id) refl
  where
    by : Ascends (found_rows p ids) → (o : Option Placed) → get p.objects id ≡ o → Ascends (found_rows p (id ∷ ids))
    by rest None e = rw e rest
    by rest (Some placed) e = rw e (λ y k. nat_cmp_less id y.0 (all_in (λ i. nat_cmp id i ≡ Less) ids y.0 h.0 (found_id p y ids k).0), rest)

-- the first objects of two such lists
first_same : (x y : ℕ × Placed) (xs ys : List (ℕ × Placed)) → Ascends (x ∷ xs) → Ascends (y ∷ ys) → In x (y ∷ ys) → In y (x ∷ xs) → x ≡ y
first_same x y xs ys first second (inl e) k = sym e
first_same x y xs ys first second (inr h) (inl e) = e
first_same x y xs ys first second (inr h) (inr k) = absurd (let less = second.0 x h in let more = first.0 y k in omega arith)

-- and what follows them
later_in : (x y z : ℕ × Placed) (xs ys : List (ℕ × Placed)) → Ascends (x ∷ xs) → x ≡ y → In z xs → In z (y ∷ ys) → In z ys
later_in x y z xs ys first same h (inr k) = k
later_in x y z xs ys first same h (inl e) = absurd (let less = first.0 z h in let is : x.0 ≡ z.0 = ap (λ (r : ℕ × Placed). r.0) (same ∙ e) in omega arith)

-- lists that rise and have the same objects are the same
same_ascending : (xs ys : List (ℕ × Placed)) → Ascends xs → Ascends ys → ((x : ℕ × Placed) → In x xs → In x ys) → ((y : ℕ × Placed) → In y ys → In y xs) → xs ≡ ys
same_ascending [] [] first second to back = refl
same_ascending [] (y ∷ ys) first second to back = absurd (back y (inl refl))
same_ascending (x ∷ xs) [] first second to back = absurd (to x (inl refl))
same_ascending (x ∷ xs) (y ∷ ys) first second to back =
    let same = first_same x y xs ys first second (to x (inl refl)) (back y (inl refl)) in
    let rest = same_ascending xs ys first.1 second.1 (λ z h. later_in x y z xs ys first same h (to z (inr h))) (λ z h. later_in y x z ys xs second (sym same) h (back z (inr h))) in
    λ i. same i ∷ rest i

-- the objects of the ids of a change are those of the project that the change has
pub own_found : (p : ProjectData) (items : List Item) (ids : BTreeSet ℕ) → IsStrictlySortedBy nat_cmp ids.keys → ((id : ℕ) → contains nat_cmp ids id ≡ has_thing (is_object id) items)
    → found_rows p ids.keys ≡ own_rows p items
own_found p items ids rising has =
    same_ascending (found_rows p ids.keys) (own_rows p items) (ascends_found p ids.keys rising)
    (ascends_filter (λ row. has_thing (is_object row.0) items) (entries p.objects) (ascends_sorted (entries p.objects) (keys_sorted nat_cmp (entries p.objects) (entries_sorted p.objects))))
    to back
  where
    to : (row : ℕ × Placed) → In row (found_rows p ids.keys) → In row (own_rows p items)
    to row h =
        let f = found_id p row ids.keys h in
        in_filter (λ (r : ℕ × Placed). has_thing (is_object r.0) items) row (entries p.objects) (in_entries p.objects row.0 row.1 f.1)
        (sym (has row.0) ∙ (btree_set_contains_iff nat_cmp_total exact_unsigned ids row.0).1 (in_contains row.0 ids.keys f.0))

    back : (row : ℕ × Placed) → In row (own_rows p items) → In row (found_rows p ids.keys)
    back row h =
        let f = filtered (λ (r : ℕ × Placed). has_thing (is_object r.0) items) row (entries p.objects) h in
        in_found (found_row p) row.0 row ids.keys
        (contains_in row.0 ids.keys ((btree_set_contains_iff nat_cmp_total exact_unsigned ids row.0).0 (has row.0 ∙ f.1)))
        (ap (option_map (λ placed. (row.0, placed))) (row_there p row f.0))

none_passes : (t : ℕ × Placed → Bool) (rows : List (ℕ × Placed)) → ((row : ℕ × Placed) → t row ≡ false) → filter t rows ≡ []
none_passes t [] none = refl
none_passes t (row ∷ rows) none = ap (λ b. cond b (row ∷ filter t rows) (filter t rows)) (none row) ∙ none_passes t rows none

within_step : {X : Type 0} (f g : X → Bool) (x : X) (xs : List X) → (g x ≡ false → f x ≡ false) → filter f (filter g xs) ≡ filter f xs → filter f (filter g (x ∷ xs)) ≡ filter f (x ∷ xs)
within_step f g x xs within same = by (g x) refl
  where
    by : (b : Bool) → g x ≡ b → filter f (filter g (x ∷ xs)) ≡ filter f (x ∷ xs)
    by true e = ap (λ b. filter f (cond b (x ∷ filter g xs) (filter g xs))) e ∙ ap (λ ys. cond (f x) (x ∷ ys) ys) same
    by false e = ap (λ b. filter f (cond b (x ∷ filter g xs) (filter g xs))) e ∙ same ∙ ap (λ b. cond b (x ∷ filter f xs) (filter f xs)) (sym (within e))

filter_within : {X : Type 0} (f g : X → Bool) → ((x : X) → g x ≡ false → f x ≡ false) → (xs : List X) → filter f (filter g xs) ≡ filter f xs
filter_within f g within [] = refl
filter_within f g within (x ∷ xs) = within_step f g x xs (within x) (filter_within f g within xs)

-- the others that come by their symbols are among those that change
pub renewed_changed : (items : List Item) (rows : List (ℕ × Placed)) → filter (is_renewed items) (filter (is_changed items) rows) ≡ filter (is_renewed items) rows
renewed_changed items = filter_within (is_renewed items) (is_changed items) within
  where
    within : (row : ℕ × Placed) → is_changed items row ≡ false → is_renewed items row ≡ false
    within row = by (has_thing (is_object row.0) items) (has_symbol_of items row.1.object)
      where
        by : (a b : Bool) → (a || b) ≡ false → (not a && b) ≡ false
        by true b e = refl
        by false b e = e

-- a change without symbols has no library symbol of any object
no_symbol_of : (items : List Item) (o : ObjectData) → HasNoSymbol items → has_symbol_of items o ≡ false
no_symbol_of items o none = by o.body refl
  where
    of_parts : (basename : List ℕ) (parts : Option (List PartData)) → has_symbol items basename parts ≡ false
    of_parts basename None = none basename
    of_parts basename (Some parts) = refl

    by : (body : Body) → o.body ≡ body → has_symbol_of items o ≡ false
    by (bodies.Shape s) is = rw is refl
    by (bodies.Component c) is = rw is (of_parts c.basename c.embedded)

module _ (p : ProjectData) (items : List Item) (none : HasNoSymbol items) where
  -- what is drawn of objects stays
  pub drawn_same : (rows : List (ℕ × Placed)) → drawn_in p rows ≡ drawn_in (put p items) rows
  drawn_same [] = refl
  drawn_same (row ∷ rows) =
      let here : conductors_at p row ≡ conductors_at (put p items) row =
      ap (map (sheet_conductor row)) (sym (drawn_stays p items row.1.object (no_symbol_of items row.1.object none))) in
      let rest = drawn_same rows in
      λ i. here i ++ rest i
