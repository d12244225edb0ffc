-- The table of sheets: what one more object adds, and that its sources name sheets of it.
use Rattle.std.proofs.Common.{◌≡◌, ◌<◌, ◌≤◌, ◌+◌, ◌*◌, ℕ, zero, suc, Bool, true, false, List, [], ◌∷◌, ◌++◌, length, get_or, map, take, Option, None, Some, refl, sym, ap, subst, ◌∙◌, arith}
use Rattle.std.specs.Prelude.{filter, filter_map, slice_set, sum_by}
use Rattle.std.specs.List.{cons_option}
use Rattle.std.specs.Option.{option_to_list}
use Rattle.std.specs.Str.{bytes_eq}
use Rattle.std.specs.FinMap.{entries, keys}
use Rattle.std.proofs.lemmas.List.{append-nil, length-map}
use Rattle.std.proofs.lemmas.List.Elements.{filter-append, filter_map-append}
use Rattle.std.proofs.lemmas.List.Quantifiers.{position-Some}
use Rattle.std.proofs.lemmas.List.Sums.{list_all-from_AllPass, sum_by_push}
use Rattle.geda_defs.proofs.Bytes.{bytes_same, bytes_false}
use Rattle.project_model.specs.declared.change.Placed.{Placed}
use Rattle.geda_model.specs.Sheets.{ObjectData}
use Rattle.project_model.specs.Projects.{ProjectData, is_on}
use Rattle.attr_rules.specs.Components.{has_sources}
use Rattle.attr_rules.specs.Libraries.{library_of}
use Rattle.hierarchy.specs.SheetTable.{HierarchicalData, TableSheetData, component_with, hierarchical, object_weight, place_of, sheet_of, sheet_table, source_of, source_values}
use Rattle.hierarchy.specs.steps.Inside.{AreSources, component_in_table, is_in_table, sheet_in_table}
use Rattle.hierarchy.specs.steps.SheetRows.{AreLight, IsTableOf, bare_sheet, with_object}
use Rattle.hierarchy.proofs.ListLemmas.{all_map, all_filter_map}
use Rattle.hierarchy.proofs.PlaceLemmas.{fails_from_none, keys_rise, lt_true, names_apart}

-- a list with one more element, filtered
kept : {X : Type 0} (test : X → Bool) (xs : List X) (x : X) → test x ≡ true → filter test (xs ++ x ∷ []) ≡ filter test xs ++ x ∷ []
kept {X} test xs x e =
    let one : filter test (x ∷ []) ≡ x ∷ [] = rw e refl in
    filter-append test xs (x ∷ []) ∙ ap (λ (ys : List X). filter test xs ++ ys) one

dropped : {X : Type 0} (test : X → Bool) (xs : List X) (x : X) → test x ≡ false → filter test (xs ++ x ∷ []) ≡ filter test xs
dropped {X} test xs x e =
    let none : filter test (x ∷ []) ≡ [] = rw e refl in
    filter-append test xs (x ∷ []) ∙ ap (λ (ys : List X). filter test xs ++ ys) none ∙ append-nil (filter test xs)

one_option : {Y : Type 0} (o : Option Y) → cons_option o [] ≡ option_to_list o
one_option None = refl
one_option (Some y) = refl

-- the first elements with one more
pub map_take_more : {X Y : Type 0} (f : X → Y) (xs : List X) (k : ℕ) (x : X) → k < length xs → x ≡ get_or xs k x → map f (take (k + 1) xs) ≡ map f (take k xs) ++ f x ∷ []
map_take_more f [] k x h e = absurd (omega arith)
map_take_more {X} {Y} f (z ∷ zs) zero x h e = ap (λ (y : X). f y ∷ []) (sym e)
map_take_more {X} {Y} f (z ∷ zs) (suc k) x h e =
    let n : suc k + 1 ≡ suc (k + 1) = omega arith in
    ap (λ (m : ℕ). map f (take m (z ∷ zs))) n ∙ ap (λ (ys : List Y). f z ∷ ys) (map_take_more f zs k x (omega arith) e)

module _ {X Y : Type 0} (f g : X → Y) (h : Y → Y) (test : X → Bool) (on : (x : X) → test x ≡ true → g x ≡ h (f x)) (off : (x : X) → test x ≡ false → g x ≡ f x) where
  -- images of elements that all fail
  map_same : (xs : List X) → ((k : ℕ) (d : X) → k < length xs → test (get_or xs k d) ≡ false) → map f xs ≡ map g xs
  map_same [] fails = refl
  map_same (x ∷ xs) fails =
      let head : f x ≡ g x = sym (off x (fails 0 x (omega arith))) in
      let tail : map f xs ≡ map g xs = map_same xs (λ k d lt. fails (suc k) d (omega arith)) in
      λ i. head i ∷ tail i

  -- images of elements of which one passes
  map_at : (xs : List X) (k : ℕ) (y : Y) → k < length xs → ((d : X) → test (get_or xs k d) ≡ true)
      → ((j : ℕ) (d : X) → j < length xs → (j ≡ k → ⊥) → test (get_or xs j d) ≡ false)
      → y ≡ get_or (map f xs) k y → slice_set (map f xs) k (h y) ≡ map g xs
  map_at [] k y lt here others e = absurd (omega arith)
  map_at (x ∷ xs) zero y lt here others e =
      let head : h y ≡ g x = ap h e ∙ sym (on x (here x)) in
      let tail : map f xs ≡ map g xs = map_same xs (λ k d lt. others (suc k) d (omega arith) (λ z. absurd (omega arith))) in
      λ i. head i ∷ tail i
  map_at (x ∷ xs) (suc k) y lt here others e =
      let head : f x ≡ g x = sym (off x (others 0 x (omega arith) (λ z. absurd (omega arith)))) in
      let tail : slice_set (map f xs) k (h y) ≡ map g xs = map_at xs k y (omega arith) here (λ j d lt ne. others (suc j) d (omega arith) (λ z. ne (omega arith))) e in
      λ i. head i ∷ tail i

module _ (p : ProjectData) (row : ℕ × Placed) where
  abbrev by_rows : List ℕ → List (ℕ × Placed) → TableSheetData
  by_rows name rs = record {
    name = name;
    components = filter_map (λ r. hierarchical p r.0 r.1.object) rs;
    weight = sum_by (λ r. object_weight p r.1.object) rs;
  }

  by_rows_push : (name : List ℕ) (rs : List (ℕ × Placed)) → by_rows name (rs ++ row ∷ []) ≡ with_object p row.0 row.1.object (by_rows name rs)
  by_rows_push name rs =
      let front = filter_map (λ (r : ℕ × Placed). hierarchical p r.0 r.1.object) rs in
      let parts : filter_map (λ (r : ℕ × Placed). hierarchical p r.0 r.1.object) (rs ++ row ∷ []) ≡ front ++ option_to_list (hierarchical p row.0 row.1.object) =
      filter_map-append (λ (r : ℕ × Placed). hierarchical p r.0 r.1.object) rs (row ∷ []) ∙ ap (λ (ys : List HierarchicalData). front ++ ys) (one_option (hierarchical p row.0 row.1.object)) in
      let sum : sum_by (λ (r : ℕ × Placed). object_weight p r.1.object) (rs ++ row ∷ []) ≡ sum_by (λ (r : ℕ × Placed). object_weight p r.1.object) rs + object_weight p row.1.object =
      sum_by_push (λ (r : ℕ × Placed). object_weight p r.1.object) rs row in
      λ i. record { name = name; components = parts i; weight = sum i }

  module _ (rows : List (ℕ × Placed)) where
    on_it : (name : List ℕ) → bytes_eq row.1.sheet name ≡ true → sheet_of p (rows ++ row ∷ []) name ≡ with_object p row.0 row.1.object (sheet_of p rows name)
    on_it name e = ap (by_rows name) (kept (is_on name) rows row e) ∙ by_rows_push name (filter (is_on name) rows)

    off_it : (name : List ℕ) → bytes_eq row.1.sheet name ≡ false → sheet_of p (rows ++ row ∷ []) name ≡ sheet_of p rows name
    off_it name e = ap (by_rows name) (dropped (is_on name) rows row e)

    -- the object stands on a sheet of the table
    pub table_put : (table : List TableSheetData) (place : ℕ) (old new : TableSheetData) → IsTableOf p rows table → Some place ≡ place_of (keys p.sheets) row.1.sheet
        → old ≡ get_or table place old → new ≡ with_object p row.0 row.1.object old → IsTableOf p (rows ++ row ∷ []) (slice_set table place new)
    table_put table place old new is at read made =
        let names = keys p.sheets in
        let test : List ℕ → Bool = bytes_eq row.1.sheet in
        let within = (position-Some test names place [] (sym at)).0 in
        let here : (d : List ℕ) → test (get_or names place d) ≡ true = λ d. (position-Some test names place d (sym at)).1 in
        let read_at : old ≡ get_or (map (sheet_of p rows) names) place old = read ∙ ap (λ (t : List TableSheetData). get_or t place old) is in
        ap (λ (t : List TableSheetData). slice_set t place new) is
        ∙ ap (λ (s : TableSheetData). slice_set (map (sheet_of p rows) names) place s) made
        ∙ map_at (sheet_of p rows) (sheet_of p (rows ++ row ∷ [])) (with_object p row.0 row.1.object) test on_it off_it names place old within here
        (λ j d lt ne. bytes_false row.1.sheet (get_or names j d) (λ same. names_apart names (keys_rise p) j place d lt within ne (sym same ∙ bytes_same row.1.sheet (get_or names place d) (here d))))
        read_at

    -- the object stands on none
    pub table_kept : (table : List TableSheetData) → IsTableOf p rows table → None ≡ place_of (keys p.sheets) row.1.sheet → IsTableOf p (rows ++ row ∷ []) table
    table_kept table is none =
        is ∙ map_same (sheet_of p rows) (sheet_of p (rows ++ row ∷ [])) (with_object p row.0 row.1.object) (bytes_eq row.1.sheet) on_it off_it (keys p.sheets)
        (fails_from_none (bytes_eq row.1.sheet) (keys p.sheets) (sym none))

-- the table by no objects
pub table_start : (p : ProjectData) (names : List (List ℕ)) (table : List TableSheetData) → table ≡ map bare_sheet names → names ≡ keys p.sheets → IsTableOf p [] table × AreLight 0 table
table_start p names table is same =
    (is ∙ ap (map bare_sheet) same, subst (AreLight 0) (sym is) (all_map (λ sheet. sheet.weight ≤ 0 * 4294967296) bare_sheet names (λ k d h. omega arith)))

names_in : (p : ProjectData) (rows : List (ℕ × Placed)) (names : List (List ℕ)) → map (λ sheet. sheet.name) (map (sheet_of p rows) names) ≡ names
names_in p rows [] = refl
names_in p rows (name ∷ names) = ap (λ (ns : List (List ℕ)). name ∷ ns) (names_in p rows names)

-- the names of the table
pub table_names : (p : ProjectData) (rows : List (ℕ × Placed)) (table : List TableSheetData) → IsTableOf p rows table → map (λ sheet. sheet.name) table ≡ keys p.sheets
table_names p rows table is = ap (map (λ (sheet : TableSheetData). sheet.name)) is ∙ names_in p rows (keys p.sheets)

module _ (p : ProjectData) where
  -- what a hierarchical component is
  pub made_by : (id : ℕ) (o : ObjectData) (c : HierarchicalData) → hierarchical p id o ≡ Some c → component_with (keys p.sheets) id o (library_of p o) ≡ c
  made_by id o c e = by (has_sources o (library_of p o)) refl
    where
      by : (b : Bool) → has_sources o (library_of p o) ≡ b → component_with (keys p.sheets) id o (library_of p o) ≡ c
      by true on =
          let made : HierarchicalData = component_with (keys p.sheets) id o (library_of p o) in
          let h : Some made ≡ Some c = rw on at e in
          let same : made ≡ c = cc in
          same
      by false off = absurd (let h : None ≡ Some c = rw off at e in cc)

  place_inside : (value : List ℕ) → is_in_table (length (sheet_table p)) (place_of (keys p.sheets) value) ≡ true
  place_inside value = by (place_of (keys p.sheets) value) refl
    where
      by : (o : Option ℕ) → place_of (keys p.sheets) value ≡ o → is_in_table (length (sheet_table p)) o ≡ true
      by None e = refl
      by (Some k) e =
          let within = (position-Some (bytes_eq value) (keys p.sheets) k [] e).0 in
          let len = length-map (keys p.sheets) (sheet_of p (entries p.objects)) in
          lt_true k (length (sheet_table p)) (omega arith)

  component_inside : (id : ℕ) (o : ObjectData) (c : HierarchicalData) → hierarchical p id o ≡ Some c → component_in_table (length (sheet_table p)) c ≡ true
  component_inside id o c e =
      let n = length (sheet_table p) in
      let values = source_values o (library_of p o) in
      subst (λ (c : HierarchicalData). component_in_table n c ≡ true) (made_by id o c e)
      (list_all-from_AllPass (λ s. is_in_table n s.sheet) (map (source_of (keys p.sheets)) values)
      (all_map (λ s. is_in_table n s.sheet ≡ true) (source_of (keys p.sheets)) values (λ k d h. place_inside (get_or values k d))))

  sheet_inside : (name : List ℕ) → sheet_in_table (length (sheet_table p)) (sheet_of p (entries p.objects) name) ≡ true
  sheet_inside name =
      let n = length (sheet_table p) in
      let mine = filter (is_on name) (entries p.objects) in
      list_all-from_AllPass (component_in_table n) (filter_map (λ (r : ℕ × Placed). hierarchical p r.0 r.1.object) mine)
      (all_filter_map (λ _. Unit {0}) (λ c. component_in_table n c ≡ true) (λ (r : ℕ × Placed). hierarchical p r.0 r.1.object) (λ r c _ e. component_inside r.0 r.1.object c e) mine (λ k d h. tt))

  -- the sources of a table name sheets of it, or none
  pub table_inside : AreSources (sheet_table p)
  table_inside =
      let n = length (sheet_table p) in
      list_all-from_AllPass (sheet_in_table n) (sheet_table p)
      (all_map (λ s. sheet_in_table n s ≡ true) (sheet_of p (entries p.objects)) (keys p.sheets) (λ k d h. sheet_inside (get_or (keys p.sheets) k d)))
