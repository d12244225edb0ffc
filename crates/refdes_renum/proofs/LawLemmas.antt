-- Items of the change that gives numbers: each is an object of the project, and none stands twice.
use Rattle.std.proofs.Common.{◌≡◌, ◌≢◌, ℕ, suc, Bool, true, false, cond, List, [], ◌∷◌, ◌++◌, Option, None, Some, All, get_or, refl, sym, ap, subst, ◌∙◌, arith, rules}
use Rattle.std.specs.Prelude.{AllPairs, IsSome, filter_map}
use Rattle.std.specs.declared.cmp.Ordering.TheVariants.{Less, Equal}
use Rattle.std.specs.Cmp.{IsTotalOrder, nat_cmp_total, tied_itself}
use Rattle.std.specs.Cmp.Rules.{comparing}
use Rattle.std.specs.FinMap.{entries, entries_sorted, get, get-entries}
use Rattle.std.specs.List.{cons_option, find}
use Rattle.std.specs.Map.{keys_of}
use Rattle.std.specs.Ordering.{eq_by_cmp, nat_cmp}
use Rattle.std.proofs.lemmas.Cmp.{eq_by_cmp_equiv}
use Rattle.std.proofs.lemmas.List.Elements.{All-append, All-cons, All-head, All-nil, All-tail, All-weaker}
use Rattle.std.proofs.lemmas.List.Kept.{AllPairs-cons}
use Rattle.std.proofs.lemmas.Map.Entries.{lookup_from_place}
use Rattle.std.proofs.lemmas.Map.Keys.{IsDistinct-from_sorted, Less-from_sorted}
use Rattle.std.proofs.lemmas.Map.Lookups.{exact_unsigned}
use Rattle.std.proofs.lemmas.Option.{slice_get-get_or}
use Rattle.geda_defs.specs.Order.{is_equal, once_in_order}
use Rattle.geda_defs.proofs.OnceLaws.{is_once_in_order}
use Rattle.project_model.specs.declared.change.Placed.{Placed}
use Rattle.project_model.specs.declared.change.Thing.{Thing}
use Rattle.project_model.specs.declared.change.Thing.TheVariants as things
use Rattle.project_model.specs.Changes.{AreDistinct, CanApply, IsIdInRange}
use Rattle.project_model.specs.Items.{Item}
use Rattle.project_model.specs.Projects.{ProjectData}
use Rattle.project_model.proofs.OrderedRows.{keys_sorted}
use Rattle.project_model.proofs.Rows.{IsKey, find_row}
use Rattle.refdes_renum.specs.declared.place.Place.{Place}
use Rattle.refdes_renum.specs.Laws.{IdsAreInRange, IsReplaced}
use Rattle.refdes_renum.specs.Renumbering.{by_place, is_unnumbered, items_of, new_refdes, open_place, open_places, component_refdeses, renumbered, renumbered_at, used_after, with_refdes}

one_replaced : (p : ProjectData) (used : List (List ℕ)) (id : ℕ) (o : Option Placed) → get p.objects id ≡ o → All (IsReplaced p) (items_of p used id o)
one_replaced p used id None e = All-nil (IsReplaced p)
one_replaced p used id (Some placed) e =
    let new : Placed = with_refdes (new_refdes p used placed) placed in
    All-cons (IsReplaced p) _ [] (record { id = id; old = placed; new = new; is = refl; there = e; sheet = refl }) (All-nil (IsReplaced p))

all_replaced : (p : ProjectData) (used : List (List ℕ)) (places : List Place) → All (IsReplaced p) (renumbered_at p used places)
all_replaced p used [] = All-nil (IsReplaced p)
all_replaced p used (place ∷ places) =
    let there = get p.objects place.id in
    All-append (IsReplaced p) (items_of p used place.id there) (renumbered_at p (used_after p used there) places)
    (one_replaced p used place.id there refl) (all_replaced p (used_after p used there) places)

-- each item is an object of the project, which stays in its sheet
pub replaced : (p : ProjectData) → All (IsReplaced p) (renumbered p)
unfolding renumbered
replaced p = all_replaced p (component_refdeses p) (open_places p)

-- an object of the project stands at a place
record IsStanding (p : ProjectData) (place : Place) : Type 0 where
  placed : Placed
  there : get p.objects place.id ≡ Some placed
  sheet : place.sheet ≡ placed.sheet

-- a row of a project is found by its id
found_row : (p : ProjectData) → All (λ (row : ℕ × Placed). get p.objects row.0 ≡ Some row.1) (entries p.objects)
found_row p k d h =
    let rows = entries p.objects in
    let row = get_or rows k d in
    let laws : IsKey nat_cmp (eq_by_cmp nat_cmp) = record { total = nat_cmp_total; exact = exact_unsigned; agree = λ x y. refl } in
    let rising = keys_sorted nat_cmp rows (entries_sorted p.objects) in
    get-entries p.objects row.0 ∙ find_row laws rows row.0
    ∙ lookup_from_place (eq_by_cmp_equiv nat_cmp_total) rows k row.0 row.1 (IsDistinct-from_sorted nat_cmp (keys_of rows) rising) (slice_get-get_or rows k d h)

standing_row : (p : ProjectData) (row : ℕ × Placed) (b : Bool) (places : List Place) → get p.objects row.0 ≡ Some row.1 → All (IsStanding p) places
    → All (IsStanding p) (cons_option (cond b (Some (record { sheet = row.1.sheet; id = row.0 })) None) places)
standing_row p row false places e all = all
standing_row p row true places e all =
    let place : Place = record { sheet = row.1.sheet; id = row.0 } in
    All-cons (IsStanding p) place places (record { placed = row.1; there = e; sheet = refl }) all

standing_rows : (p : ProjectData) (rows : List (ℕ × Placed)) → All (λ (row : ℕ × Placed). get p.objects row.0 ≡ Some row.1) rows
    → All (IsStanding p) (filter_map (open_place p) rows)
standing_rows p [] all = All-nil (IsStanding p)
standing_rows p (row ∷ rows) all =
    let there : ℕ × Placed → Type 0 = λ row. get p.objects row.0 ≡ Some row.1 in
    standing_row p row (is_unnumbered p row.1.object) (filter_map (open_place p) rows) (All-head there row rows all)
    (standing_rows p rows (All-tail there row rows all))

-- what holds of each holds of the first that passes a test
of_found : {X : Type 0} (P : X → Type 0) (test : X → Bool) (xs : List X) (x : X) → All P xs → find test xs ≡ Some x → P x
of_found P test [] x all e = absurd cc
of_found P test (y ∷ ys) x all e = by (test y) e (of_found P test ys x (All-tail P y ys all))
  where
    by : (b : Bool) → cond b (Some y) (find test ys) ≡ Some x → (find test ys ≡ Some x → P x) → P x
    by true f later = let same : y ≡ x = cc in subst P same (All-head P y ys all)
    by false f later = later f

by_place_total : IsTotalOrder by_place
by_place_total = search (comparing, rules)

-- an object stands at each place of a component without a number
standing : (p : ProjectData) → All (IsStanding p) (open_places p)
unfolding open_places
standing p =
    let given = filter_map (open_place p) (entries p.objects) in
    let listed = once_in_order by_place given in
    All-weaker (λ place. find (is_equal by_place place) given ≡ Some place) (IsStanding p)
    (λ place e. of_found (IsStanding p) (is_equal by_place place) given place (standing_rows p (entries p.objects) (found_row p)) e)
    listed (is_once_in_order by_place_total given).first

-- two places of one id are one place
one_place : (p : ProjectData) (a b : Place) → IsStanding p a → IsStanding p b → a.id ≡ b.id → a ≡ b
one_place p a b f g same =
    let both : Some f.placed ≡ Some g.placed = sym f.there ∙ ap (get p.objects) same ∙ g.there in
    let one : f.placed ≡ g.placed = cc in
    let sheet : a.sheet ≡ b.sheet = f.sheet ∙ ap (λ (o : Placed). o.sheet) one ∙ sym g.sheet in
    let first : a ≡ record { sheet = b.sheet; id = a.id } = ap (λ (s : List ℕ). record { sheet = s; id = a.id }) sheet in
    first ∙ ap (λ (i : ℕ). record { sheet = b.sheet; id = i }) same

-- so the ids of places differ
ids_apart : (p : ProjectData) → AllPairs (λ (a b : Place). a.id ≢ b.id) (open_places p)
unfolding open_places
ids_apart p i j d lt h same =
    let given = filter_map (open_place p) (entries p.objects) in
    let places = once_in_order by_place given in
    let a = get_or places i d in
    let b = get_or places j d in
    let less : by_place a b ≡ Less = Less-from_sorted by_place places i j d (is_once_in_order by_place_total given).rising lt h in
    let one : a ≡ b = one_place p a b (standing p i d (omega arith)) (standing p j d h) same in
    let equal : by_place a b ≡ Equal = ap (by_place a) (sym one) ∙ tied_itself by_place_total a in
    absurd cc

-- what holds of the objects at places holds of the things of their items
kept_one : (P : Thing → Type 0) (p : ProjectData) (used : List (List ℕ)) (id : ℕ) (o : Option Placed) → P (things.Object id)
    → All (λ (item : Item). P item.0) (items_of p used id o)
kept_one P p used id None h = All-nil (λ (item : Item). P item.0)
kept_one P p used id (Some placed) h = All-cons (λ (item : Item). P item.0) _ [] h (All-nil (λ (item : Item). P item.0))

kept : (P : Thing → Type 0) (p : ProjectData) (used : List (List ℕ)) (places : List Place) → All (λ (place : Place). P (things.Object place.id)) places
    → All (λ (item : Item). P item.0) (renumbered_at p used places)
kept P p used [] all = All-nil (λ (item : Item). P item.0)
kept P p used (place ∷ places) all =
    let there = get p.objects place.id in
    let at : Place → Type 0 = λ place. P (things.Object place.id) in
    All-append (λ (item : Item). P item.0) (items_of p used place.id there) (renumbered_at p (used_after p used there) places)
    (kept_one P p used place.id there (All-head at place places all)) (kept P p (used_after p used there) places (All-tail at place places all))

two_objects : (i j : ℕ) → i ≢ j → things.Object i ≢ things.Object j
two_objects i j ne e = ne cc

-- what comes of one more place
one_more : (p : ProjectData) (used : List (List ℕ)) (id : ℕ) (o : Option Placed) (items : List Item)
    → All (λ (item : Item). things.Object id ≢ item.0) items → AreDistinct items → AreDistinct (items_of p used id o ++ items)
one_more p used id None items apart distinct = distinct
one_more p used id (Some placed) items apart distinct = AllPairs-cons (λ (a b : Item). a.0 ≢ b.0) _ items apart distinct

distinct_at : (p : ProjectData) (used : List (List ℕ)) (places : List Place) → AllPairs (λ (a b : Place). a.id ≢ b.id) places
    → AreDistinct (renumbered_at p used places)
distinct_at p used [] apart = λ i j d lt h. absurd (omega arith)
distinct_at p used (place ∷ places) apart =
    let there = get p.objects place.id in
    one_more p used place.id there (renumbered_at p (used_after p used there) places)
    (kept (λ thing. things.Object place.id ≢ thing) p (used_after p used there) places
    (λ k d h. two_objects place.id (get_or places k d).id (apart 0 (suc k) d (omega arith) (omega arith))))
    (distinct_at p (used_after p used there) places (λ i j d lt h. apart (suc i) (suc j) d (omega arith) (omega arith)))

-- no object stands twice
pub distinct : (p : ProjectData) → AreDistinct (renumbered p)
unfolding renumbered
distinct p = distinct_at p (component_refdeses p) (open_places p) (ids_apart p)

in_range : (p : ProjectData) (item : Item) → IdsAreInRange p → IsReplaced p item → IsIdInRange item.0
in_range p item h is =
    let some : IsSome (get p.objects is.id) = rw is.there refl in
    subst (λ (i : Item). IsIdInRange i.0) (sym is.is) (h is.id some)

-- and the project can take all
pub can_apply : (p : ProjectData) → IdsAreInRange p → CanApply (renumbered p)
can_apply p h =
    record {
      distinct = distinct p;
      in_range = All-weaker (IsReplaced p) (λ (item : Item). IsIdInRange item.0) (λ item is. in_range p item h is) (renumbered p) (replaced p);
    }
