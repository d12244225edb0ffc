-- An instance is known by its route and its sheet: an id is that of one component, on one sheet.
use Rattle.std.proofs.Common.{◌≡◌, ◌≢◌, ◌<◌, ℕ, zero, suc, List, [], ◌∷◌, Some, length, get_or, map, drop, refl, sym, ap, ◌∙◌, inl, inr, arith}
use Rattle.std.specs.Prelude.{All, AllPairs, Contains, filter}
use Rattle.std.specs.FinMap.{entries, keys}
use Rattle.std.proofs.lemmas.Bool.{cases_lt}
use Rattle.std.proofs.lemmas.List.{get_or-map, get_or_default, length-map}
use Rattle.std.proofs.lemmas.List.Elements.{All-contains, All-contains_itself, All-filter, All-head, All-tail, All-weaker, filter_passes}
use Rattle.geda_defs.proofs.Bytes.{bytes_same}
use Rattle.project_model.specs.declared.change.Placed.{Placed}
use Rattle.project_model.specs.Projects.{ProjectData, ids_on, is_on}
use Rattle.hierarchy.specs.declared.way.Step.{Step}
use Rattle.hierarchy.specs.declared.instances.Instance.{Instance}
use Rattle.hierarchy.specs.SheetTable.{HierarchicalData, TableSheetData, hierarchical, no_sheet, sheet_at, sheet_of, sheet_table}
use Rattle.hierarchy.specs.steps.Inside.{AreSources}
use Rattle.hierarchy.specs.Ways.{WayData, IsStep, IsWay, LeadDown, last_sheet, ways}
use Rattle.hierarchy.specs.Instances.{AreApart, instance_of, instances_of}
use Rattle.hierarchy.proofs.ListLemmas.{all_none, all_filter_map, all_map}
use Rattle.hierarchy.proofs.PlaceLemmas.{keys_rise, names_apart}
use Rattle.hierarchy.proofs.TableLemmas.{made_by, table_inside}
use Rattle.hierarchy.proofs.WayLemmas.{all_are_ways, last_from, sheets_inside}
use Rattle.hierarchy.proofs.OnceLemmas.{pairs_map, ways_once}
use Rattle.hierarchy.proofs.SourceLemmas.{rows_apart, table_once}

-- two places whose elements are not apart are one
one_place : {X : Type 0} (R : X → X → Type 0) (xs : List X) → AllPairs R xs → (i j : ℕ) (d : X) → i < length xs → j < length xs
    → (R (get_or xs i d) (get_or xs j d) → ⊥) → (R (get_or xs j d) (get_or xs i d) → ⊥) → i ≡ j
one_place R xs pairs i j d h k near back = elim (cases_lt i j) [
  | inl lt ↦ absurd (near (pairs i j d lt k))
  | inr le ↦ elim (cases_lt j i) [ inl lt ↦ absurd (back (pairs j i d lt h)) | inr ge ↦ omega arith ]
]

-- a row among those that stand on a sheet
abbrev StandsOn : List (ℕ × Placed) → List ℕ → ℕ × Placed → Type 0
StandsOn rows name row = Contains rows row × (row.1.sheet ≡ name)

stand_on : (rows : List (ℕ × Placed)) (name : List ℕ) → All (StandsOn rows name) (filter (is_on name) rows)
stand_on rows name k d h =
    let among = All-filter (is_on name) (Contains rows) rows (All-contains_itself rows) in
    let passes = filter_passes (is_on name) rows in
    (among k d h, bytes_same (get_or (filter (is_on name) rows) k d).1.sheet name (passes k d h))

-- rows of which each has an id of its own
module _ (rows : List (ℕ × Placed)) (apart : AllPairs (λ (r s : ℕ × Placed). r.0 ≢ s.0) rows) where
  same_row : (r s : ℕ × Placed) → Contains rows r → Contains rows s → r.0 ≡ s.0 → r ≡ s
  same_row r s (a, h, here) (b, k, other) same =
      let there : get_or rows b r ≡ s = get_or_default rows b r s k ∙ other in
      let ids : (get_or rows a r).0 ≡ (get_or rows b r).0 = ap (λ (x : ℕ × Placed). x.0) here ∙ same ∙ sym (ap (λ (x : ℕ × Placed). x.0) there) in
      let e : a ≡ b = one_place (λ (x y : ℕ × Placed). x.0 ≢ y.0) rows apart a b r h k (λ ne. ne ids) (λ ne. ne (sym ids)) in
      sym here ∙ ap (λ (n : ℕ). get_or rows n r) e ∙ there

-- the row of a component on the sheet at a place
record ComesFrom (p : ProjectData) (rows : List (ℕ × Placed)) (names : List (List ℕ)) (place : ℕ) (c : HierarchicalData) : Type 0 where
  within : place < length names
  row : ℕ × Placed
  on : StandsOn rows (get_or names place []) row
  made : hierarchical p row.0 row.1.object ≡ Some c

come_from : (p : ProjectData) (rows : List (ℕ × Placed)) (names : List (List ℕ)) (place : ℕ) → All (ComesFrom p rows names place) (get_or (map (sheet_of p rows) names) place no_sheet).components
come_from p rows [] place = all_none (ComesFrom p rows [] place)
come_from p rows (name ∷ names) zero =
    all_filter_map (StandsOn rows name) (ComesFrom p rows (name ∷ names) zero) (λ (r : ℕ × Placed). hierarchical p r.0 r.1.object)
    (λ row c on made. record { within = omega arith; row = row; on = on; made = made }) (filter (is_on name) rows) (stand_on rows name)
come_from p rows (name ∷ names) (suc place) =
    All-weaker (ComesFrom p rows names place) (ComesFrom p rows (name ∷ names) (suc place)) (λ c from. let lt = from.within in record { within = omega arith; row = from.row; on = from.on; made = from.made })
    (get_or (map (sheet_of p rows) names) place no_sheet).components (come_from p rows names place)

-- a name is that of one sheet, and an id that of one component on one sheet
pub record AreKnown (sheets : List TableSheetData) : Type 0 where
  pub names : (i j : ℕ) → i < length sheets → j < length sheets → (sheet_at sheets i).name ≡ (sheet_at sheets j).name → i ≡ j
  pub ids : (i j : ℕ) (c d : HierarchicalData) → Contains (sheet_at sheets i).components c → Contains (sheet_at sheets j).components d → c.id ≡ d.id → (i ≡ j) × (c ≡ d)

module _ (p : ProjectData) where
  one_name : (i j : ℕ) → i < length (keys p.sheets) → j < length (keys p.sheets) → get_or (keys p.sheets) i [] ≡ get_or (keys p.sheets) j [] → i ≡ j
  one_name i j h k same =
      one_place ◌≢◌ (keys p.sheets) (λ a b d lt within e. names_apart (keys p.sheets) (keys_rise p) a b d (omega arith) within (λ z. absurd (omega arith)) e)
      i j [] h k (λ ne. ne same) (λ ne. ne (sym same))

  id_of : (row : ℕ × Placed) (c : HierarchicalData) → hierarchical p row.0 row.1.object ≡ Some c → row.0 ≡ c.id
  id_of row c e = ap (λ (c : HierarchicalData). c.id) (made_by p row.0 row.1.object c e)

  known_names : (i j : ℕ) → i < length (sheet_table p) → j < length (sheet_table p) → (sheet_at (sheet_table p) i).name ≡ (sheet_at (sheet_table p) j).name → i ≡ j
  known_names i j h k same =
      let sheet = sheet_of p (entries p.objects) in
      let len = length-map (keys p.sheets) sheet in
      let first = get_or-map sheet (keys p.sheets) i [] no_sheet (omega arith) in
      let second = get_or-map sheet (keys p.sheets) j [] no_sheet (omega arith) in
      one_name i j (omega arith) (omega arith) (sym (ap (λ (s : TableSheetData). s.name) first) ∙ same ∙ ap (λ (s : TableSheetData). s.name) second)

  known_ids : (i j : ℕ) (c d : HierarchicalData) → Contains (sheet_at (sheet_table p) i).components c → Contains (sheet_at (sheet_table p) j).components d → c.id ≡ d.id → (i ≡ j) × (c ≡ d)
  known_ids i j c d one other same =
      let rows = entries p.objects in
      let names = keys p.sheets in
      let a = All-contains (ComesFrom p rows names i) (sheet_at (sheet_table p) i).components c (come_from p rows names i) one in
      let b = All-contains (ComesFrom p rows names j) (sheet_at (sheet_table p) j).components d (come_from p rows names j) other in
      let row : a.row ≡ b.row = same_row rows (rows_apart p) a.row b.row a.on.0 b.on.0 (id_of a.row c a.made ∙ same ∙ sym (id_of b.row d b.made)) in
      let place = one_name i j a.within b.within (sym a.on.1 ∙ ap (λ (x : ℕ × Placed). x.1.sheet) row ∙ b.on.1) in
      let made : Some c ≡ Some d = sym a.made ∙ ap (λ (x : ℕ × Placed). hierarchical p x.0 x.1.object) row ∙ b.made in
      (place, (let e : c ≡ d = cc in e))

  pub table_known : AreKnown (sheet_table p)
  table_known = record { names = known_names; ids = known_ids }

module _ (sheets : List TableSheetData) (known : AreKnown sheets) where
  -- a place and the sheets of some steps are in the table
  abbrev AreInside : ℕ → List Step → Type 0
  AreInside place steps = All (λ q. q < length sheets) (place ∷ map (λ s. s.sheet) steps)

  -- the name of the sheet on which some steps from a place end
  abbrev end_of : ℕ → List Step → List ℕ
  end_of place steps = (sheet_at sheets (last_sheet (record { root = place; steps = steps }))).name

  name_from : (place : ℕ) (s : Step) (ss : List Step) → end_of place (s ∷ ss) ≡ end_of s.sheet ss
  name_from place s ss = ap (λ (n : ℕ). (sheet_at sheets n).name) (last_from place s ss)

  -- steps down by the same ids to the same sheet are the same, and begin at one place
  one_descent : (i j : ℕ) (ss ts : List Step) → AreInside i ss → AreInside j ts → LeadDown sheets i ss → LeadDown sheets j ts
      → map (λ s. s.id) ss ≡ map (λ s. s.id) ts → end_of i ss ≡ end_of j ts → (i ≡ j) × (ss ≡ ts)
  one_descent i j [] [] within inside down below ids ends =
      (known.names i j (All-head (λ q. q < length sheets) i [] within) (All-head (λ q. q < length sheets) j [] inside) ends, refl)
  one_descent i j [] (t ∷ ts) within inside down below ids ends = absurd (let len = ap length ids in omega arith)
  one_descent i j (s ∷ ss) [] within inside down below ids ends = absurd (let len = ap length ids in omega arith)
  one_descent i j (s ∷ ss) (t ∷ ts) within inside down below ids ends =
      let id : s.id ≡ t.id = ap (λ (l : List ℕ). get_or l 0 s.id) ids in
      let others : map (λ (s : Step). s.id) ss ≡ map (λ (s : Step). s.id) ts = ap (λ (l : List ℕ). drop 1 l) ids in
      let step : IsStep (sheet_at sheets i) s = down.0 in
      let other : IsStep (sheet_at sheets j) t = below.0 in
      let one = known.ids i j step.component other.component step.stands other.stands (step.same_id ∙ id ∙ sym other.same_id) in
      let named : Some s.refdes ≡ Some t.refdes = sym step.same_refdes ∙ ap (λ (c : HierarchicalData). c.refdes) one.1 ∙ other.same_refdes in
      let refdes : s.refdes ≡ t.refdes = cc in
      let rest = one_descent s.sheet t.sheet ss ts (All-tail (λ q. q < length sheets) i (map (λ s. s.sheet) (s ∷ ss)) within)
      (All-tail (λ q. q < length sheets) j (map (λ s. s.sheet) (t ∷ ts)) inside) down.1 below.1 others (sym (name_from i s ss) ∙ ends ∙ name_from j t ts) in
      let places : s.sheet ≡ t.sheet = rest.0 in
      let tail : ss ≡ ts = rest.1 in
      (one.0, λ k. record { id = id k; refdes = refdes k; sheet = places k } ∷ tail k)

  -- a way is known by its ids and the name of its last sheet
  one_way : AreSources sheets → (w u : WayData) → IsWay sheets w → IsWay sheets u → map (λ s. s.id) w.steps ≡ map (λ s. s.id) u.steps
      → end_of w.root w.steps ≡ end_of u.root u.steps → w ≡ u
  one_way sources w u way other ids ends =
      let one = one_descent w.root u.root w.steps u.steps (sheets_inside sheets sources w way) (sheets_inside sheets sources u other) way.down other.down ids ends in
      let roots : w.root ≡ u.root = one.0 in
      let steps : w.steps ≡ u.steps = one.1 in
      λ k. record { root = roots k; steps = steps k }

-- an instance is known by its route and its sheet
pub instances_apart : (p : ProjectData) → AllPairs AreApart (instances_of p)
instances_apart p =
    let sheets = sheet_table p in
    let ws = ways sheets in
    pairs_map AreApart (instance_of sheets ws) ws
    (λ i j d lt h same.
    let are = all_are_ways sheets (length sheets) in
    ways_once sheets (table_once p) i j d lt h
    (one_way sheets (table_known p) (table_inside p) (get_or ws i d) (get_or ws j d) (are i d (omega arith)) (are j d h) same.0 same.1))

module _ (p : ProjectData) where
  -- the row of an object with an id on a sheet
  abbrev HasRow : List ℕ → ℕ → Type 0
  HasRow name id = (row : ℕ × Placed) × StandsOn (entries p.objects) name row × (row.0 ≡ id)

  have_rows : (name : List ℕ) → All (HasRow name) (ids_on p name)
  have_rows name =
      let mine = filter (is_on name) (entries p.objects) in
      all_map (HasRow name) (λ (row : ℕ × Placed). row.0) mine
      (All-weaker (StandsOn (entries p.objects) name) (λ row. HasRow name row.0) (λ row on. (row, on, refl)) mine (stand_on (entries p.objects) name))

  -- an object stands on one sheet
  pub one_sheet : (a b : List ℕ) (id : ℕ) → Contains (ids_on p a) id → Contains (ids_on p b) id → a ≡ b
  one_sheet a b id on other =
      let first = All-contains (HasRow a) (ids_on p a) id (have_rows a) on in
      let second = All-contains (HasRow b) (ids_on p b) id (have_rows b) other in
      let row : first.0 ≡ second.0 = same_row (entries p.objects) (rows_apart p) first.0 second.0 first.1.0 second.1.0 (first.2 ∙ sym second.2) in
      sym first.1.1 ∙ ap (λ (x : ℕ × Placed). x.1.sheet) row ∙ second.1.1

  -- an instance is known by its route and an object on its sheet
  pub known_by_object : (i j : ℕ) (d : Instance) (id : ℕ) → i < length (instances_of p) → j < length (instances_of p)
      → (get_or (instances_of p) i d).route ≡ (get_or (instances_of p) j d).route
      → Contains (ids_on p (get_or (instances_of p) i d).sheet) id → Contains (ids_on p (get_or (instances_of p) j d).sheet) id → i ≡ j
  known_by_object i j d id h k routes on other =
      let sheets = one_sheet (get_or (instances_of p) i d).sheet (get_or (instances_of p) j d).sheet id on other in
      one_place AreApart (instances_of p) (instances_apart p) i j d h k (λ apart. apart (routes, sheets)) (λ apart. apart (sym routes, sym sheets))
