-- The list of ways has exactly the ways of the relation, and they are short.
use Rattle.std.proofs.Common.{◌≡◌, ◌≢◌, ◌==◌, ◌<◌, ◌≤◌, ◌+◌, ◌-◌, ◌||◌, ℕ, zero, suc, Bool, true, false, not, List, [], ◌∷◌, ◌++◌, Option, Some, None, length, get_or, map, refl, sym, ap, subst, ◌∙◌, append_assoc, length-append, eqb, ◌↔◌, inl, inr, arith}
use Rattle.std.specs.Prelude.{nat_lt, All, AllPairs, Any, Contains, flat_map}
use Rattle.std.specs.List.{list_any, range_with_len, slice_get}
use Rattle.std.specs.Option.{option_map_or}
use Rattle.std.proofs.lemmas.Bool.{eq-eqb, eqb-true, false≢true, or_cases}
use Rattle.std.proofs.lemmas.Bool.Decides.{Decides-eqb, nat_tests}
use Rattle.std.proofs.lemmas.List.{append-nil, length-map, map-append}
use Rattle.std.proofs.lemmas.List.Sums.{AllPass-from_list_all}
use Rattle.std.proofs.lemmas.List.FromFn.{get_or-range_with_len, length-range_with_len}
use Rattle.std.proofs.lemmas.List.Elements.{All-cons, All-contains, All-contains_itself, All-filter, All-from_get_or, All-head, All-tail, All-weaker, Contains-append_right}
use Rattle.std.proofs.lemmas.List.Quantifiers.{all_pairs_push}
use Rattle.std.proofs.lemmas.Map.Made.{IsDistinct-from_AllPairs}
use Rattle.std.proofs.lemmas.Map.Steps.{length-le_from_distinct_below}
use Rattle.hierarchy.specs.declared.way.Step.{Step}
use Rattle.hierarchy.specs.SheetTable.{HierarchicalData, TableSheetData, sheet_at, no_sheet, is_named, roots}
use Rattle.hierarchy.specs.steps.Inside.{component_in_table, is_in_table, sheet_in_table, AreSources}
use Rattle.hierarchy.specs.Ways.{WayData, sheets_on, IsStep, LeadDown, IsWay, last_sheet, is_on, step_to, steps_by, component_steps, next_steps, extended, children, with_descendants, way_at, ways_within, ways}
use Rattle.hierarchy.specs.Crowded.{AreTooMany, HasTooMany, IsDeep}
use Rattle.hierarchy.proofs.ListLemmas.{all_none, all_map, all_flat_map, all_filter_map, contains_map, contains_flat_map, contains_filter_map}
use Rattle.hierarchy.proofs.WideningLemmas.{ways_stay}
use Rattle.hierarchy.proofs.CrowdLemmas.{short_ways, too_many_later}

or_true : (b : Bool) → (b || true) ≡ true
or_true true = refl
or_true false = refl

-- a sheet among those of steps is found
found : (steps : List Step) (place k d : ℕ) → k < length (map (λ s. s.sheet) steps) → get_or (map (λ s. s.sheet) steps) k d ≡ place → list_any (λ s. s.sheet == place) steps ≡ true
found [] place k d h e = absurd (omega arith)
found (s ∷ ss) place zero d h e = rw (eq-eqb s.sheet place e) refl
found (s ∷ ss) place (suc k) d h e = rw (found ss place k d (omega arith) e) (or_true (s.sheet == place))

-- a sheet on the way is on it
on_way : (w : WayData) (place k d : ℕ) → k < length (sheets_on w) → get_or (sheets_on w) k d ≡ place → is_on w place ≡ true
on_way w place zero d h e = rw (eq-eqb w.root place e) refl
on_way w place (suc k) d h e = rw (found w.steps place k d (omega arith) e) (or_true (w.root == place))

among : (steps : List Step) (place : ℕ) → list_any (λ s. s.sheet == place) steps ≡ true → Contains (map (λ s. s.sheet) steps) place
among [] place e = absurd (false≢true e)
among (s ∷ ss) place e = elim (or_cases (s.sheet == place) (list_any (λ s. s.sheet == place) ss) e) [
  | inl here ↦ (0, omega arith, eqb-true s.sheet place here)
  | inr there ↦ Contains-append_right (s.sheet ∷ []) (map (λ s. s.sheet) ss) place (among ss place there)
]

on_list : (w : WayData) (place : ℕ) → is_on w place ≡ true → Contains (sheets_on w) place
on_list w place e = elim (or_cases (w.root == place) (list_any (λ s. s.sheet == place) w.steps) e) [
  | inl here ↦ (0, omega arith, eqb-true w.root place here)
  | inr there ↦ Contains-append_right (w.root ∷ []) (map (λ s. s.sheet) w.steps) place (among w.steps place there)
]

-- the last sheet, one step further from the root
any_default : (steps : List Step) (k a b : ℕ) → k < length steps → option_map_or (λ s. s.sheet) (slice_get steps k) a ≡ option_map_or (λ s. s.sheet) (slice_get steps k) b
any_default [] k a b h = absurd (omega arith)
any_default (s ∷ ss) zero a b h = refl
any_default (s ∷ ss) (suc k) a b h = any_default ss k a b (omega arith)

pub last_from : (place : ℕ) (s : Step) (ss : List Step) → last_sheet (record { root = place; steps = s ∷ ss }) ≡ last_sheet (record { root = s.sheet; steps = ss })
last_from place s [] = refl
last_from place s (t ∷ ts) =
    let e : length (s ∷ t ∷ ts) - 1 ≡ suc (length (t ∷ ts) - 1) = omega arith in
    ap (λ (k : ℕ). option_map_or (λ s. s.sheet) (slice_get (s ∷ t ∷ ts) k) place) e ∙ any_default (t ∷ ts) (length (t ∷ ts) - 1) place s.sheet (omega arith)

-- the last sheet of a longer way
last_push : (place : ℕ) (ss : List Step) (t : Step) → last_sheet (record { root = place; steps = ss ++ t ∷ [] }) ≡ t.sheet
last_push place [] t = refl
last_push place (s ∷ ss) t = last_from place s (ss ++ t ∷ []) ∙ last_push s.sheet ss t

-- an element of a list in front, and the first one behind it
get_or_front : {X : Type 0} (xs ys : List X) (i : ℕ) (d : X) → i < length xs → get_or (xs ++ ys) i d ≡ get_or xs i d
get_or_front [] ys i d h = absurd (omega arith)
get_or_front (x ∷ xs) ys zero d h = refl
get_or_front (x ∷ xs) ys (suc i) d h = get_or_front xs ys i d (omega arith)

get_or_next : {X : Type 0} (xs : List X) (y : X) (ys : List X) (d : X) → get_or (xs ++ y ∷ ys) (length xs) d ≡ y
get_or_next [] y ys d = refl
get_or_next (x ∷ xs) y ys d = get_or_next xs y ys d

below : (place count : ℕ) → nat_lt place count ≡ true → place < count
below place count e = grind (arith, nat_tests)

-- what holds of the components of each sheet, holds of those at a place
components_inside : (P : HierarchicalData → Type 0) (xs : List TableSheetData) (place : ℕ) → All (λ sheet. All P sheet.components) xs → All P (get_or xs place no_sheet).components
components_inside P [] place all = all_none P
components_inside P (x ∷ xs) zero all = All-head (λ sheet. All P sheet.components) x xs all
components_inside P (x ∷ xs) (suc k) all = components_inside P xs k (All-tail (λ sheet. All P sheet.components) x xs all)

-- what holds of the sheets on a way holds of its last one
last_in : (P : ℕ → Type 0) (root : ℕ) (ss : List Step) → All P (root ∷ map (λ s. s.sheet) ss) → P (last_sheet (record { root = root; steps = ss }))
last_in P root [] all = All-head P root [] all
last_in P root (s ∷ ss) all = subst P (sym (last_from root s ss)) (last_in P s.sheet ss (All-tail P root (map (λ s. s.sheet) (s ∷ ss)) all))

module _ (sheets : List TableSheetData) where
  -- one more step leads down
  down_push : (place : ℕ) (ss : List Step) (t : Step) → LeadDown sheets place ss → IsStep (sheet_at sheets (last_sheet (record { root = place; steps = ss }))) t
      → LeadDown sheets place (ss ++ t ∷ [])
  down_push place [] t down step = (step, tt)
  down_push place (s ∷ ss) t down step =
      (down.0, down_push s.sheet ss t down.1 (subst (λ (n : ℕ). IsStep (sheet_at sheets n) t) (last_from place s ss) step))

  -- what the step of a source is
  abbrev pub StepFacts : WayData → ℕ → List ℕ → Option ℕ → Step → Type 0
  StepFacts w id refdes sheet s = (sheet ≡ Some s.sheet) × (is_on w s.sheet ≡ false) × (id ≡ s.id) × (refdes ≡ s.refdes)

  pub step_facts : (w : WayData) (id : ℕ) (refdes : List ℕ) (sheet : Option ℕ) (s : Step) → step_to w id refdes sheet ≡ Some s → StepFacts w id refdes sheet s
  step_facts w id refdes None s e = absurd (let h : None ≡ Some s = e in cc)
  step_facts w id refdes (Some place) s e = by (is_on w place) refl
    where
      by : (b : Bool) → is_on w place ≡ b → StepFacts w id refdes (Some place) s
      by true on = absurd (let h : None ≡ Some s = rw on at e in cc)
      by false off =
          let made : Step = record { id = id; refdes = refdes; sheet = place } in
          let same : Some made ≡ Some s = rw off at e in
          let is : made ≡ s = cc in
          subst (λ (t : Step). StepFacts w id refdes (Some place) t) is (refl, off, refl, refl)

  -- a next step leads on, to a sheet that is not on the way
  abbrev LeadsOn : WayData → Step → Type 0
  LeadsOn w s = IsStep (sheet_at sheets (last_sheet w)) s × (is_on w s.sheet ≡ false)

  by_sources : (w : WayData) (c : HierarchicalData) (refdes : Option (List ℕ)) → c.refdes ≡ refdes → Contains (sheet_at sheets (last_sheet w)).components c
      → All (LeadsOn w) (steps_by w c.id c.sources refdes)
  by_sources w c None e stands = all_none (LeadsOn w)
  by_sources w c (Some refdes) e stands =
      all_filter_map (Contains c.sources) (LeadsOn w) (λ s. step_to w c.id refdes s.sheet)
      (λ source s given is.
      let facts = step_facts w c.id refdes source.sheet s is in
      (record { component = c; stands = stands; same_id = facts.2; same_refdes = e ∙ ap Some facts.3; source = source; given = given; names = facts.0 }, facts.1))
      c.sources (All-contains_itself c.sources)

  next_lead_on : (w : WayData) → All (LeadsOn w) (next_steps sheets w)
  next_lead_on w =
      let components = (sheet_at sheets (last_sheet w)).components in
      all_flat_map (Contains components) (LeadsOn w) (component_steps w) (λ c stands. by_sources w c c.refdes refl stands) components (All-contains_itself components)

  -- a longer way is a way
  way_extended : (w : WayData) (s : Step) → IsWay sheets w → LeadsOn w s → IsWay sheets (extended w s)
  way_extended w s way leads = record {
    from_root = way.from_root;
    down = down_push w.root w.steps s way.down leads.0;
    apart = subst (λ (places : List ℕ). AllPairs ◌≢◌ places) (ap (λ (places : List ℕ). w.root ∷ places) (sym (map-append (λ (s : Step). s.sheet) w.steps (s ∷ []))))
        (all_pairs_push ◌≢◌ (sheets_on w) s.sheet way.apart (λ k d h e. absurd (false≢true (sym leads.1 ∙ on_way w s.sheet k d h e))));
  }

  -- all that is listed are ways
  with_descendants_ways : (n : ℕ) (w : WayData) → IsWay sheets w → All (IsWay sheets) (with_descendants sheets n w)
  with_descendants_ways zero w way = All-cons (IsWay sheets) w [] way (all_none (IsWay sheets))
  with_descendants_ways (suc n) w way =
      All-cons (IsWay sheets) w (flat_map (with_descendants sheets n) (children sheets w)) way
      (all_flat_map (IsWay sheets) (IsWay sheets) (with_descendants sheets n) (with_descendants_ways n) (children sheets w)
      (all_map (IsWay sheets) (extended w) (next_steps sheets w) (All-weaker (LeadsOn w) (λ s. IsWay sheets (extended w s)) (λ s leads. way_extended w s way leads) (next_steps sheets w) (next_lead_on w))))

  root_way : (place : ℕ) → Contains (roots sheets) place → IsWay sheets (way_at place)
  root_way place root = record { from_root = root; down = tt; apart = λ i j d lt h. absurd (omega arith) }

  pub all_are_ways : (n : ℕ) → All (IsWay sheets) (ways_within sheets n)
  all_are_ways n =
      all_flat_map (IsWay sheets) (IsWay sheets) (with_descendants sheets n) (with_descendants_ways n) (map way_at (roots sheets))
      (all_map (IsWay sheets) way_at (roots sheets) (All-weaker (Contains (roots sheets)) (λ place. IsWay sheets (way_at place)) root_way (roots sheets) (All-contains_itself (roots sheets))))

  -- roots are sheets of the project
  roots_inside : All (λ place. place < length sheets) (roots sheets)
  roots_inside =
      All-filter (λ place. not (is_named sheets place)) (λ place. place < length sheets) (range_with_len 0 (length sheets))
      (All-from_get_or (λ place. place < length sheets) (range_with_len 0 (length sheets)) 0 (λ k h.
      let len = length-range_with_len 0 (length sheets) in
      let at = get_or-range_with_len 0 (length sheets) k 0 (omega arith) in
      omega arith))

  -- a step leads to a sheet of the project
  step_inside : AreSources sheets → (place : ℕ) (s : Step) → IsStep (sheet_at sheets place) s → s.sheet < length sheets
  step_inside sources place s step =
      let n = length sheets in
      let each = components_inside (λ c. component_in_table n c ≡ true) sheets place
      (λ k d h. AllPass-from_list_all (component_in_table n) (get_or sheets k d).components (AllPass-from_list_all (sheet_in_table n) sheets sources k d h)) in
      let given = All-contains (λ c. component_in_table n c ≡ true) (sheet_at sheets place).components step.component each step.stands in
      let source = All-contains (λ s. is_in_table n s.sheet ≡ true) step.component.sources step.source
      (AllPass-from_list_all (λ s. is_in_table n s.sheet) step.component.sources given) step.given in
      let names : nat_lt s.sheet n ≡ true = subst (λ (o : Option ℕ). is_in_table n o ≡ true) step.names source in
      below s.sheet n names

  steps_inside : AreSources sheets → (place : ℕ) (ss : List Step) → LeadDown sheets place ss → All (λ q. q < length sheets) (map (λ s. s.sheet) ss)
  steps_inside sources place [] down = all_none (λ q. q < length sheets)
  steps_inside sources place (s ∷ ss) down =
      All-cons (λ q. q < length sheets) s.sheet (map (λ s. s.sheet) ss) (step_inside sources place s down.0) (steps_inside sources s.sheet ss down.1)

  pub sheets_inside : AreSources sheets → (w : WayData) → IsWay sheets w → All (λ q. q < length sheets) (sheets_on w)
  sheets_inside sources w way =
      All-cons (λ q. q < length sheets) w.root (map (λ s. s.sheet) w.steps) (All-contains (λ place. place < length sheets) (roots sheets) w.root roots_inside way.from_root)
      (steps_inside sources w.root w.steps way.down)

  -- each way ends on a sheet of the project
  pub ways_inside : AreSources sheets → All (λ w. last_sheet w < length sheets) (ways sheets)
  ways_inside sources =
      All-weaker (IsWay sheets) (λ w. last_sheet w < length sheets) (λ w way. last_in (λ q. q < length sheets) w.root w.steps (sheets_inside sources w way)) (ways sheets) (all_are_ways (length sheets))

  listed_inside : (n q : ℕ) (xs : List ℕ) → All (λ x. x < n) xs → list_any (eqb q) xs ≡ true → q < n
  listed_inside n q [] all e = absurd (false≢true e)
  listed_inside n q (x ∷ xs) all e = elim (or_cases (eqb q x) (list_any (eqb q) xs) e) [
    | inl here ↦ let same = eqb-true q x here in let lt = All-head (λ x. x < n) x xs all in omega arith
    | inr there ↦ listed_inside n q xs (All-tail (λ x. x < n) x xs all) there
  ]

  -- no sheet comes twice, so a way has fewer steps than there are sheets
  pub way_short : AreSources sheets → (w : WayData) → IsWay sheets w → length w.steps < length sheets
  way_short sources w way =
      let apart = IsDistinct-from_AllPairs Decides-eqb (sheets_on w) way.apart in
      let few = length-le_from_distinct_below (sheets_on w) (length sheets) apart (λ q e. listed_inside (length sheets) q (sheets_on w) (sheets_inside sources w way) e) in
      let len = length-map w.steps (λ (s : Step). s.sheet) in
      omega arith

  -- more turns list no more ways
  pub ways_whole : AreSources sheets → (k : ℕ) → ways_within sheets (k + length sheets) ≡ ways sheets
  ways_whole sources k =
      ways_stay sheets (length sheets) (All-weaker (IsWay sheets) (λ w. length w.steps < length sheets) (way_short sources) (ways_within sheets (length sheets)) (all_are_ways (length sheets))) k

  -- ways of some number of steps that are too many make the project crowded
  pub crowded_at : AreSources sheets → (n : ℕ) → AreTooMany sheets (ways_within sheets n) → HasTooMany sheets
  crowded_at sources n many =
      let e : length sheets + n ≡ n + length sheets = omega arith in
      subst (AreTooMany sheets) (ap (ways_within sheets) e ∙ ways_whole sources n) (too_many_later sheets n (length sheets) many)

  -- where none of them is deep, these are all
  pub all_at : AreSources sheets → (Any IsDeep (ways_within sheets 17) → ⊥) → ways_within sheets 17 ≡ ways sheets
  all_at sources none =
      let e : length sheets + 17 ≡ 17 + length sheets = omega arith in
      sym (ways_stay sheets 17 (short_ways (ways_within sheets 17) none) (length sheets)) ∙ ap (ways_within sheets) e ∙ ways_whole sources 17

  -- a step that leads on is a next step
  step_made : (w : WayData) (s : Step) (id : ℕ) (refdes : List ℕ) (sheet : Option ℕ) → StepFacts w id refdes sheet s → step_to w id refdes sheet ≡ Some s
  step_made w s id refdes sheet facts = rw (facts.0, facts.1, facts.2, facts.3) refl

  made_by : (w : WayData) (s : Step) (step : IsStep (sheet_at sheets (last_sheet w)) s) → is_on w s.sheet ≡ false → Contains (component_steps w step.component) s
  made_by w s step off =
      subst (λ (refdes : Option (List ℕ)). Contains (steps_by w step.component.id step.component.sources refdes) s) (sym step.same_refdes)
      (contains_filter_map (λ source. step_to w step.component.id s.refdes source.sheet) step.component.sources step.source s step.given
      (step_made w s step.component.id s.refdes step.source.sheet (step.names, off, step.same_id, refl)))

  next_has : (w : WayData) (s : Step) → IsStep (sheet_at sheets (last_sheet w)) s → is_on w s.sheet ≡ false → Contains (next_steps sheets w) s
  next_has w s step off =
      contains_flat_map (component_steps w) (sheet_at sheets (last_sheet w)).components step.component s step.stands (made_by w s step off)

  has_itself : (n : ℕ) (w : WayData) → Contains (with_descendants sheets n w) w
  has_itself zero w = (0, omega arith, refl)
  has_itself (suc n) w = (0, omega arith, refl)

  -- no sheet comes twice, so the next one is not on the way so far
  next_off : (root : ℕ) (before after : List Step) (t : Step) → AllPairs ◌≢◌ (root ∷ map (λ s. s.sheet) (before ++ t ∷ after)) → is_on (record { root = root; steps = before }) t.sheet ≡ false
  next_off root before after t apart = by (is_on (record { root = root; steps = before }) t.sheet) refl
    where
      front : List ℕ
      front = root ∷ map (λ s. s.sheet) before

      whole : root ∷ map (λ s. s.sheet) (before ++ t ∷ after) ≡ front ++ map (λ s. s.sheet) (t ∷ after)
      whole = ap (λ (places : List ℕ). root ∷ places) (map-append (λ (s : Step). s.sheet) before (t ∷ after))

      clash : Contains front t.sheet → ⊥
      clash c =
          let pairs : AllPairs ◌≢◌ (front ++ map (λ s. s.sheet) (t ∷ after)) = subst (λ (places : List ℕ). AllPairs ◌≢◌ places) whole apart in
          let len = length-append front (map (λ s. s.sheet) (t ∷ after)) in
          let here : get_or (front ++ map (λ s. s.sheet) (t ∷ after)) c.0 t.sheet ≡ t.sheet = get_or_front front (map (λ s. s.sheet) (t ∷ after)) c.0 t.sheet c.1 ∙ c.2 in
          let there : get_or (front ++ map (λ s. s.sheet) (t ∷ after)) (length front) t.sheet ≡ t.sheet = get_or_next front t.sheet (map (λ s. s.sheet) after) t.sheet in
          pairs c.0 (length front) t.sheet c.1 (omega arith) (here ∙ sym there)

      by : (b : Bool) → is_on (record { root = root; steps = before }) t.sheet ≡ b → is_on (record { root = root; steps = before }) t.sheet ≡ false
      by true e = absurd (clash (on_list (record { root = root; steps = before }) t.sheet e))
      by false e = e

  -- a way with further steps is listed below it
  with_descendants_has : (after : List Step) (n : ℕ) (root : ℕ) (before : List Step) → length after ≤ n
      → LeadDown sheets (last_sheet (record { root = root; steps = before })) after → AllPairs ◌≢◌ (root ∷ map (λ s. s.sheet) (before ++ after))
      → Contains (with_descendants sheets n (record { root = root; steps = before })) (record { root = root; steps = before ++ after })
  with_descendants_has [] n root before few down apart =
      subst (λ (steps : List Step). Contains (with_descendants sheets n (record { root = root; steps = before })) (record { root = root; steps = steps })) (sym (append-nil before))
      (has_itself n (record { root = root; steps = before }))
  with_descendants_has (t ∷ ts) zero root before few down apart = absurd (omega arith)
  with_descendants_has (t ∷ ts) (suc n) root before few down apart =
      let w : WayData = record { root = root; steps = before } in
      let v = extended w t in
      let off = next_off root before ts t apart in
      let again : before ++ t ∷ ts ≡ (before ++ t ∷ []) ++ ts = sym (append_assoc before (t ∷ []) ts) in
      let down_on : LeadDown sheets (last_sheet v) ts = subst (λ (k : ℕ). LeadDown sheets k ts) (sym (last_push root before t)) down.1 in
      let apart_on : AllPairs ◌≢◌ (root ∷ map (λ s. s.sheet) ((before ++ t ∷ []) ++ ts)) = subst (λ (steps : List Step). AllPairs ◌≢◌ (root ∷ map (λ s. s.sheet) steps)) again apart in
      let below = with_descendants_has ts n root (before ++ t ∷ []) (omega arith) down_on apart_on in
      let here = contains_map (extended w) (next_steps sheets w) t (next_has w t down.0 off) in
      let all = contains_flat_map (with_descendants sheets n) (children sheets w) v (record { root = root; steps = (before ++ t ∷ []) ++ ts }) here below in
      subst (λ (steps : List Step). Contains (with_descendants sheets (suc n) w) (record { root = root; steps = steps })) (sym again)
      (Contains-append_right (w ∷ []) (flat_map (with_descendants sheets n) (children sheets w)) (record { root = root; steps = (before ++ t ∷ []) ++ ts }) all)

  -- each way is listed
  listed : AreSources sheets → (w : WayData) → IsWay sheets w → Contains (ways sheets) w
  listed sources w way =
      contains_flat_map (with_descendants sheets (length sheets)) (map way_at (roots sheets)) (way_at w.root) w
      (contains_map way_at (roots sheets) w.root way.from_root)
      (with_descendants_has w.steps (length sheets) w.root [] (let lt = way_short sources w way in omega arith) way.down way.apart)

  -- the list has exactly the ways
  pub ways_are : AreSources sheets → (w : WayData) → Contains (ways sheets) w ↔ IsWay sheets w
  ways_are sources w = (All-contains (IsWay sheets) (ways sheets) w (all_are_ways (length sheets)), listed sources w)
