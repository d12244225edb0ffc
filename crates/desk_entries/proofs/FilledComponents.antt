-- The components that a table makes: in their ranges, each another one, with the bodies that they had.
use Rattle.std.proofs.Common.{◌≡◌, ◌∙◌, ◌||◌, ◌&&◌, nat_le, ◌++◌, ℕ, Bool, true, false, not, List, [], ◌∷◌, map, fold, filter, zip, cond, Option, Some, None, refl, sym, ap, subst, ◌∙◌, arith, inl, eqb}
use Rattle.std.specs.List.{AllByRecursion, cons_option, filter_map, flat_map, list_all, list_any}
use Rattle.std.specs.Option.{option_and_then}
use Rattle.std.specs.FinMap as finite
use Rattle.std.specs.Str.{bytes_eq, is_utf8}
use Rattle.std.specs.Str.Parse.{digits_value}
use Rattle.std.proofs.lemmas.Bool.{and_parts, leb-true}
use Rattle.std.proofs.lemmas.List.Elements.{All-from_recursion, recursion_from_All}
use Rattle.geda_defs.proofs.Bytes.{bytes_same}
use Rattle.geda_geom.specs.declared.conductor.Point.{Point}
use Rattle.geda_model.specs.Data.{TextData}
use Rattle.geda_model.specs.Ranges.{IsContent, IsCoordinate, IsText}
use Rattle.geda_model.specs.Sheets.{BodyIsInRange, ObjectData, ObjectIsInRange}
use Rattle.geda_model.specs.declared.object.Body.{Body}
use Rattle.geda_model.specs.declared.object.Body.TheVariants as bodies
use Rattle.project_model.specs.Projects.{ProjectData}
use Rattle.project_model.specs.declared.change.Placed.{Placed}
use Rattle.edit_entries.specs.Entries.{IsU32}
use Rattle.edit_entries.specs.Ids.{greatest_u32}
use Rattle.edit_attr.specs.Attributes.{attr_line, is_attr_named, new_label, set_text, with_attr, with_content}
use Rattle.edit_attr.specs.FirstPoints.{first_point}
use Rattle.attr_table.specs.Cells.{Cell, cells_of, cell_counts, is_bad_cell, set_cell, set_cells}
use Rattle.attr_table.specs.Filling.{filled_at, filled_by, if_counts}
use Rattle.attr_table.specs.Records.{Record, each_after, first_record_field, later_fields}
use Rattle.attr_table.specs.SheetTables.{Numbered, component_in, if_component}
use Rattle.attr_table.specs.TableFaults.{component_at, component_named, first_column, id_of, is_id_text, row_faults, second_column}
use Rattle.attr_table.proofs.CellLemmas.{can_set, cell_content, none_bad}
use Rattle.attr_table.proofs.FewLemmas.{AreGoodRows, HasComponent, IsGoodRow, apart_id, are_ids, good_id, good_row, ids_of, no_fault_left}

clash : {P : Type 0} → true ≡ false → P
clash e = absurd (cc e)

or_parts : (a b : Bool) → (a || b) ≡ false → (a ≡ false) × (b ≡ false)
or_parts true b e = clash e
or_parts false b e = (refl, e)

-- texts in their ranges, of which one is set
label_in_range : (content : List ℕ) (p : Point) → IsContent content → IsCoordinate p.x → IsCoordinate p.y → IsText (new_label content p)
label_in_range content p is x y = record {
  x = x;
  y = y;
  color = omega arith;
  size = omega arith;
  visible = omega arith;
  show = omega arith;
  angle = inl refl;
  align = omega arith;
  content = is;
}

content_in_range : (content : List ℕ) (t : TextData) → IsContent content → IsText t → IsText (with_content content t)
content_in_range content t is h = record {
  x = h.x;
  y = h.y;
  color = h.color;
  size = h.size;
  visible = h.visible;
  show = h.show;
  angle = h.angle;
  align = h.align;
  content = is;
}

texts_in_range : (name content : List ℕ) (p : Point) (ts : List TextData) → IsContent content → IsCoordinate p.x → IsCoordinate p.y → AllByRecursion IsText ts
    → AllByRecursion IsText (set_text name content p ts)
texts_in_range name content p [] is x y h = (label_in_range content p is x y, tt)
texts_in_range name content p (t ∷ ts) is x y h = by (is_attr_named name t) (texts_in_range name content p ts is x y h.1)
  where
    by : (b : Bool) → AllByRecursion IsText (set_text name content p ts) → AllByRecursion IsText (cond b (with_content content t ∷ ts) (t ∷ set_text name content p ts))
    by true rest = (content_in_range content t is h.0, h.1)
    by false rest = (h.0, rest)

-- a component in its ranges
record IsGood (o : ObjectData) : Type 0 where
  range : ObjectIsInRange o
  across : IsCoordinate (first_point o.body).x
  up : IsCoordinate (first_point o.body).y

-- the line of a cell can be a text
abbrev IsCell : Cell → Type 0
IsCell cell = IsContent (attr_line cell.0 cell.1)

cell_set : (o : ObjectData) (cell : Cell) → IsCell cell → IsGood o → IsGood (set_cell o cell)
unfolding with_attr
cell_set o cell is h = record {
  range = record {
    body = h.range.body;
    attrs = All-from_recursion IsText (set_text cell.0 (attr_line cell.0 cell.1) (first_point o.body) o.attrs)
        (texts_in_range cell.0 (attr_line cell.0 cell.1) (first_point o.body) o.attrs is h.across h.up (recursion_from_All IsText o.attrs h.range.attrs));
  };
  across = h.across;
  up = h.up;
}

cells_set : (o : ObjectData) (cells : List Cell) → AllByRecursion IsCell cells → IsGood o → IsGood (fold set_cell o cells)
cells_set o [] is h = h
cells_set o (cell ∷ cells) is h = cells_set (set_cell o cell) cells is.1 (cell_set o cell is.0 h)

kept_body : (o : ObjectData) (cells : List Cell) → (fold set_cell o cells).body ≡ o.body
unfolding with_attr
kept_body o [] = refl
kept_body o (cell ∷ cells) = kept_body (set_cell o cell) cells

-- a component stands on the sheet
good_component : (o : ObjectData) → ObjectIsInRange o → if_component o ≡ Some o → IsGood o
unfolding first_point
good_component o range is = by o.body refl range.body
  where
    by : (b : Body) → o.body ≡ b → BodyIsInRange b → IsGood o
    by (bodies.Shape s) e h = absurd (let t : None ≡ Some o = sym (rw e refl) ∙ is in cc)
    by (bodies.Component c) e h = record { range = range; across = rw e h.own.x; up = rw e h.own.y }

-- the cells of a record that are set
abbrev IsTextCell : Cell → Type 0
IsTextCell cell = (is_utf8 cell.0 ≡ true) × (is_utf8 cell.1 ≡ true)

zipped : (names values : List (List ℕ)) → list_all is_utf8 names ≡ true → list_all is_utf8 values ≡ true → AllByRecursion IsTextCell (zip names values)
zipped [] values n v = tt
zipped (name ∷ names) [] n v = tt
zipped (name ∷ names) (value ∷ values) n v =
    let a = and_parts (is_utf8 name) (list_all is_utf8 names) n in
    let b = and_parts (is_utf8 value) (list_all is_utf8 values) v in
    ((a.0, b.0), zipped names values a.1 b.1)

later_utf8 : (fields : Record) → list_all is_utf8 fields ≡ true → list_all is_utf8 (later_fields fields) ≡ true
later_utf8 [] e = refl
later_utf8 (field ∷ fields) e = (and_parts (is_utf8 field) (list_all is_utf8 fields) e).1

cells_good : (o : ObjectData) (cells : List Cell) → AllByRecursion IsTextCell cells → list_any (is_bad_cell o) cells ≡ false → AllByRecursion IsCell (filter (cell_counts o) cells)
cells_good o [] t e = tt
cells_good o (cell ∷ cells) t e =
    let parts = or_parts (is_bad_cell o cell) (list_any (is_bad_cell o) cells) e in
    by (cell_counts o cell) refl parts.0 (cells_good o cells t.1 parts.1)
  where
    by : (b : Bool) → cell_counts o cell ≡ b → is_bad_cell o cell ≡ false → AllByRecursion IsCell (filter (cell_counts o) cells)
        → AllByRecursion IsCell (cond b (cell ∷ filter (cell_counts o) cells) (filter (cell_counts o) cells))
    by true is good rest = (cell_content cell.0 cell.1 t.0.0 t.0.1 (can_set o cell is good), rest)
    by false is good rest = rest

not_not : (b : Bool) → not b ≡ false → b ≡ true
not_not true e = refl
not_not false e = clash e

small_id : (field : List ℕ) (id : ℕ) → id_of field ≡ Some id → IsU32 id
small_id field id e = by (is_id_text field && nat_le (digits_value 10 field) greatest_u32) refl e
  where
    same_number : (m n : ℕ) → Some m ≡ Some n → m ≡ n
    same_number m n f = cc

    by : (b : Bool) → (is_id_text field && nat_le (digits_value 10 field) greatest_u32) ≡ b → cond b (Some (digits_value 10 field)) None ≡ Some id → IsU32 id
    by true is f =
        subst IsU32 (same_number (digits_value 10 field) id f)
        (leb-true (digits_value 10 field) greatest_u32 (and_parts (is_id_text field) (nat_le (digits_value 10 field) greatest_u32) is).1)
    by false is f = absurd (let t : None ≡ Some id = f in cc)

-- where an object was found
record WasFound (p : ProjectData) (sheet : List ℕ) (id : ℕ) (o : ObjectData) : Type 0 where
  pub placed : Placed
  pub there : finite.get p.objects id ≡ Some placed
  pub home : placed.sheet ≡ sheet
  pub object : placed.object ≡ o
  pub component : if_component o ≡ Some o

was_found : (p : ProjectData) (sheet : List ℕ) (id : ℕ) (o : ObjectData) → component_at p sheet id ≡ Some o → WasFound p sheet id o
was_found p sheet id o e = by (finite.get p.objects id) refl e
  where
    same_object : (a b : ObjectData) → Some a ≡ Some b → a ≡ b
    same_object a b f = cc

    own : (x : ObjectData) → if_component x ≡ Some o → x ≡ o
    own x f = of_body x.body refl
      where
        of_body : (b : Body) → x.body ≡ b → x ≡ o
        of_body (bodies.Shape s) is = absurd (let t : None ≡ Some o = sym (rw is refl) ∙ f in cc)
        of_body (bodies.Component c) is = same_object x o (sym (rw is refl) ∙ f)

    inside : (placed : Placed) → finite.get p.objects id ≡ Some placed → (b : Bool) → bytes_eq placed.sheet sheet ≡ b
        → cond b (if_component placed.object) None ≡ Some o → WasFound p sheet id o
    inside placed there true is f =
        let same = own placed.object f in
        record { placed = placed; there = there; home = bytes_same placed.sheet sheet is; object = same; component = subst (λ (x : ObjectData). if_component x ≡ Some o) same f }
    inside placed there false is f = absurd (let t : None ≡ Some o = f in cc)

    by : (m : Option Placed) → finite.get p.objects id ≡ m → option_and_then (component_in sheet) m ≡ Some o → WasFound p sheet id o
    by None there f = absurd (let t : None ≡ Some o = f in cc)
    by (Some placed) there f = inside placed there (bytes_eq placed.sheet sheet) refl f

-- what a record makes of its component
pub record IsFilled (p : ProjectData) (sheet : List ℕ) (c : Numbered) : Type 0 where
  pub placed : Placed
  pub there : finite.get p.objects c.0 ≡ Some placed
  pub home : placed.sheet ≡ sheet
  pub small : IsU32 c.0
  pub body : c.1.body ≡ placed.object.body
  pub range : ObjectIsInRange placed.object → ObjectIsInRange c.1

made_of : (p : ProjectData) (sheet : List ℕ) (head : Record) (earlier : List Record) (fields : Record) (h : HasComponent p sheet earlier fields)
    → IsGoodRow p sheet head earlier fields → list_all is_utf8 head ≡ true → IsFilled p sheet (h.id, set_cells h.o (cells_of (later_fields head) fields))
made_of p sheet head earlier fields h good text =
    let found = was_found p sheet h.id h.o h.there in
    let cells = cells_of (later_fields head) fields in
    let own : list_all is_utf8 fields ≡ true = not_not (list_all is_utf8 fields) good.text in
    let named : component_named p sheet (first_record_field fields) ≡ Some h.o = ap (option_and_then (component_at p sheet)) h.named ∙ h.there in
    let quiet : first_column (is_bad_cell h.o) second_column cells ≡ None = rw named at good.value in
    let each = cells_good h.o cells (zipped (later_fields head) (later_fields fields) (later_utf8 head text) (later_utf8 fields own)) (none_bad (is_bad_cell h.o) second_column cells quiet) in
    record {
      placed = found.placed;
      there = found.there;
      home = found.home;
      small = small_id (first_record_field fields) h.id h.named;
      body = kept_body h.o (filter (cell_counts h.o) cells) ∙ ap (λ (o : ObjectData). o.body) (sym found.object);
      range = λ range. (cells_set h.o (filter (cell_counts h.o) cells) each (good_component h.o (subst ObjectIsInRange found.object range) found.component)).range;
    }

-- all of them, none of which stands twice
abbrev pub AreFilled : ProjectData → List ℕ → List Numbered → Type 0
AreFilled p sheet [] = Unit {0}
AreFilled p sheet (c ∷ cs) = (IsFilled p sheet c × (list_any (eqb c.0) (map (λ (d : Numbered). d.0) cs) ≡ false)) × AreFilled p sheet cs

-- their ids are among those of the records
abbrev made_by : ProjectData → List ℕ → List (List ℕ) → List Record → List Numbered
made_by p sheet names rows = filter_map (filled_by p sheet names) rows

or_kept : (a b c : Bool) → (a || b) ≡ false → (b ≡ false → c ≡ false) → (a || c) ≡ false
or_kept true b c e f = clash e
or_kept false b c e f = f e

fewer_ids : (p : ProjectData) (sheet : List ℕ) (names : List (List ℕ)) (rows : List Record) (id : ℕ) → list_any (eqb id) (ids_of rows) ≡ false
    → list_any (eqb id) (map (λ (d : Numbered). d.0) (made_by p sheet names rows)) ≡ false
fewer_ids p sheet names [] id e = refl
fewer_ids p sheet names (fields ∷ rows) id e = by (id_of (first_record_field fields)) e (fewer_ids p sheet names rows id)
  where
    here : (own : ℕ) (m : Option ObjectData) → (eqb id own || list_any (eqb id) (ids_of rows)) ≡ false
        → (list_any (eqb id) (ids_of rows) ≡ false → list_any (eqb id) (map (λ (d : Numbered). d.0) (made_by p sheet names rows)) ≡ false)
        → list_any (eqb id) (map (λ (d : Numbered). d.0) (cons_option (option_and_then (if_counts (cells_of names fields) own) m) (made_by p sheet names rows))) ≡ false
    here own None f later = later (or_parts (eqb id own) (list_any (eqb id) (ids_of rows)) f).1
    here own (Some o) f later = counted (list_any (cell_counts o) (cells_of names fields))
      where
        counted : (b : Bool)
            → list_any (eqb id) (map (λ (d : Numbered). d.0) (cons_option (cond b (Some (own, set_cells o (cells_of names fields))) None) (made_by p sheet names rows))) ≡ false
        counted true = or_kept (eqb id own) (list_any (eqb id) (ids_of rows)) _ f later
        counted false = later (or_parts (eqb id own) (list_any (eqb id) (ids_of rows)) f).1

    by : (m : Option ℕ) → list_any (eqb id) (cons_option m (ids_of rows)) ≡ false
        → (list_any (eqb id) (ids_of rows) ≡ false → list_any (eqb id) (map (λ (d : Numbered). d.0) (made_by p sheet names rows)) ≡ false)
        → list_any (eqb id) (map (λ (d : Numbered). d.0) (cons_option (option_and_then (filled_at p sheet (cells_of names fields)) m) (made_by p sheet names rows))) ≡ false
    by None f later = later f
    by (Some own) f later = here own (component_at p sheet own) f later

-- so are those that the records of a table make
pub rows_filled : (p : ProjectData) (sheet : List ℕ) (head : Record) (earlier rows : List Record) → list_all is_utf8 head ≡ true → AreGoodRows p sheet head earlier rows
    → AreFilled p sheet (made_by p sheet (later_fields head) rows)
rows_filled p sheet head earlier [] text good = tt
rows_filled p sheet head earlier (fields ∷ rows) text good =
    let parts = no_fault_left (row_faults p sheet head (earlier, fields)) (flat_map (row_faults p sheet head) (each_after (earlier ++ fields ∷ []) rows)) good in
    let row = good_row p sheet head earlier fields parts.0 in
    let h = good_id p sheet earlier fields row.id in
    let apart = apart_id p sheet earlier fields rows h (are_ids p sheet head (earlier ++ fields ∷ []) rows parts.1) in
    let rest = rows_filled p sheet head (earlier ++ fields ∷ []) rows text parts.1 in
    let cells = cells_of (later_fields head) fields in
    rw (h.named, h.there)
    (by h (made_of p sheet head earlier fields h row text) (fewer_ids p sheet (later_fields head) rows h.id apart) rest (list_any (cell_counts h.o) cells))
  where
    by : (h : HasComponent p sheet earlier fields) → IsFilled p sheet (h.id, set_cells h.o (cells_of (later_fields head) fields))
        → list_any (eqb h.id) (map (λ (d : Numbered). d.0) (made_by p sheet (later_fields head) rows)) ≡ false
        → AreFilled p sheet (made_by p sheet (later_fields head) rows) → (b : Bool)
        → AreFilled p sheet (cons_option (cond b (Some (h.id, set_cells h.o (cells_of (later_fields head) fields))) None) (made_by p sheet (later_fields head) rows))
    by h own apart rest true = ((own, apart), rest)
    by h own apart rest false = rest
