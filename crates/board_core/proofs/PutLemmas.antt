-- The objects and the symbols of a project after a change.
use Rattle.std.proofs.Common.{◌≡◌, ◌⊎◌, inl, inr, ◌||◌, ◌&&◌, ◌==◌, ℕ, zero, suc, Bool, true, false, cond, not, codes, if◌then◌else◌, List, [], ◌∷◌, Option, Some, None, map, refl, sym, ap, subst, ◌∙◌, arith}
use Rattle.std.specs.FinMap.{FinMap, entries, find, get, get-entries, get-insert, get-remove}
use Rattle.std.specs.List.{filter_map, slice_get}
use Rattle.std.specs.Ordering.{eq_by_cmp, nat_cmp}
use Rattle.std.specs.Cmp.Lexicographic.{slice_cmp}
use Rattle.std.specs.Str.{bytes_eq}
use Rattle.std.proofs.lemmas.Slice.Eq.{bytes_eq-Decides}
use Rattle.geda_model.specs.Data.{TextData}
use Rattle.geda_model.specs.Shapes.{ComponentData, PartData}
use Rattle.geda_model.specs.Names.{is_name}
use Rattle.geda_model.specs.declared.object.Body.{Body}
use Rattle.geda_model.specs.declared.object.Body.TheVariants as bodies
use Rattle.geda_model.specs.Sheets.{ObjectData, SymbolData}
use Rattle.project_model.specs.declared.change.Placed.{Placed}
use Rattle.project_model.specs.declared.change.Thing.{Thing}
use Rattle.project_model.specs.declared.change.Thing.TheVariants as things
use Rattle.project_model.specs.declared.change.Value.{Value}
use Rattle.project_model.specs.declared.change.Value.TheVariants as values
use Rattle.project_model.specs.Items.{Item}
use Rattle.project_model.specs.Projects.{ProjectData}
use Rattle.project_model.specs.Tables.{set_row}
use Rattle.project_model.specs.Changes.{AreDistinct, as_placed, as_symbol, put, put_one}
use Rattle.project_model.proofs.Rows.{ids, key_equal, key_same, names}
use Rattle.attr_rules.specs.Attributes.{attached, attr, attrs, free_text, or_else, parts_of, values_named}
use Rattle.attr_rules.specs.Components.{has_no_pins, is_directive, is_value}
use Rattle.attr_rules.specs.Libraries.{library_of}
use Rattle.pin_place.specs.Pins.{conductors_of}
use Rattle.pin_place.specs.SymbolPins.{symbol_pins}
use Rattle.pin_place.specs.steps.PinEnds.{ends_from}
use Rattle.pin_place.proofs.EndLemmas.{conductors_of-component}
use Rattle.board_core.specs.Changed.{has_symbol, has_symbol_of, has_thing, is_object, is_symbol}
use Rattle.board_core.specs.steps.Standing.{given_row}
use Rattle.board_core.specs.steps.Members.{Distinct, In}
use Rattle.board_core.proofs.MemberLemmas.{in_contains, mapped}

-- either of two tests fails where neither is passed
neither : (a b : Bool) → (a || b) ≡ false → (a ≡ false) × (b ≡ false)
neither true b e = absurd (cc e)
neither false b e = (refl, e)

-- the row of a key is among the entries
pub in_entries : (m : FinMap nat_cmp Placed) (id : ℕ) (placed : Placed) → get m id ≡ Some placed → In (id, placed) (entries m)
in_entries m id placed e = go (entries m) (sym (get-entries m id) ∙ e)
  where
    go : (es : List (ℕ × Placed)) → find nat_cmp id es ≡ Some placed → In (id, placed) es
    go [] e = absurd (cc e)
    go (row ∷ es) e = by (go es) (eq_by_cmp nat_cmp id row.0) refl e
      where
        by : (find nat_cmp id es ≡ Some placed → In (id, placed) es) → (b : Bool) → eq_by_cmp nat_cmp id row.0 ≡ b → find nat_cmp id (row ∷ es) ≡ Some placed → In (id, placed) (row ∷ es)
        by rest true t e =
            let same : id ≡ row.0 = key_same ids id row.0 (ids.agree id row.0 ∙ t) in
            let value : row.1 ≡ placed = let p = sym (ap (λ b. cond b (Some row.1) (find nat_cmp id es)) t) ∙ e in cc in
            inl (λ i. (sym same i, value i))
        by rest false t e = inr (rest (sym (ap (λ b. cond b (Some row.1) (find nat_cmp id es)) t) ∙ e))

-- the row that an object of this id gets
set_here : (m : FinMap nat_cmp Placed) (id : ℕ) (o : Option Placed) → get (set_row m id o) id ≡ o
set_here m id None = get-remove ids.total m id id ∙ ap (λ b. cond b None (get m id)) (sym (ids.agree id id) ∙ (key_equal ids).refl id)
set_here m id (Some x) = get-insert ids.total m id x id ∙ ap (λ b. cond b (Some x) (get m id)) (sym (ids.agree id id) ∙ (key_equal ids).refl id)

-- each other object keeps its row
set_apart : (m : FinMap nat_cmp Placed) (id other : ℕ) (o : Option Placed) → (other == id) ≡ false → get (set_row m other o) id ≡ get m id
set_apart m id other None e = get-remove ids.total m other id ∙ ap (λ b. cond b None (get m id)) (sym (ids.agree id other) ∙ turned)
  where
    turned : (id == other) ≡ false
    turned = search (e, arith)
set_apart m id other (Some x) e = get-insert ids.total m other x id ∙ ap (λ b. cond b (Some x) (get m id)) (sym (ids.agree id other) ∙ turned)
  where
    turned : (id == other) ≡ false
    turned = search (e, arith)

one_apart : (p : ProjectData) (id : ℕ) (thing : Thing) (value : Option Value) → is_object id thing ≡ false → get (put_one p thing value).objects id ≡ get p.objects id
one_apart p id (things.Object other) value e = set_apart p.objects id other (as_placed value) e
one_apart p id (things.SheetName name) value e = refl
one_apart p id (things.SymbolName name) value e = refl

-- an object that a change does not have stays
pub objects_apart : (p : ProjectData) (items : List Item) (id : ℕ) → has_thing (is_object id) items ≡ false → get (put p items).objects id ≡ get p.objects id
objects_apart p [] id e = refl
objects_apart p (item ∷ items) id e =
    let parts = neither (is_object id item.0) (has_thing (is_object id) items) e in
    objects_apart (put_one p item.0 item.1) items id parts.1 ∙ one_apart p id item.0 item.1 parts.0

is_that : (id : ℕ) (thing : Thing) → is_object id thing ≡ true → thing ≡ things.Object id
is_that id (things.Object other) e = ap things.Object (let same : other ≡ id = search (e, arith) in same)
is_that id (things.SheetName name) e = absurd (cc e)
is_that id (things.SymbolName name) e = absurd (cc e)

is_itself : (id : ℕ) → is_object id (things.Object id) ≡ true
is_itself id = search arith

given_as : (id : ℕ) (placed : Placed) (value : Option Value) → as_placed value ≡ Some placed → given_row (things.Object id, value) ≡ Some (id, placed)
given_as id placed None e = absurd (cc e)
given_as id placed (Some (values.Object x)) e = let same : x ≡ placed = cc e in ap (λ y. Some (id, y)) same
given_as id placed (Some (values.Head x)) e = absurd (cc e)
given_as id placed (Some (values.Symbol x)) e = absurd (cc e)

-- an object after a change
pub record IsGiven (items : List Item) (id : ℕ) (placed : Placed) : Type 0 where
  pub item : Item
  pub there : In item items
  pub gives : given_row item ≡ Some (id, placed)

abbrev pub Stays : ProjectData → List Item → ℕ → Placed → Type 0
Stays p items id placed = (has_thing (is_object id) items ≡ false) × (get p.objects id ≡ Some placed)

-- an object after a change was given by it, or stands as before
pub given_or_stays : (p : ProjectData) (items : List Item) (id : ℕ) (placed : Placed) → get (put p items).objects id ≡ Some placed → IsGiven items id placed ⊎ Stays p items id placed
given_or_stays p [] id placed e = inr (refl, e)
given_or_stays p (item ∷ items) id placed e = elim (given_or_stays (put_one p item.0 item.1) items id placed e) [
  | inl g ↦ inl (record { item = g.item; there = inr g.there; gives = g.gives })
  | inr s ↦ by (is_object id item.0) refl s
]
  where
    by : (b : Bool) → is_object id item.0 ≡ b → Stays (put_one p item.0 item.1) items id placed → IsGiven (item ∷ items) id placed ⊎ Stays p (item ∷ items) id placed
    by true t s =
        let same = is_that id item.0 t in
        let row : as_placed item.1 ≡ Some placed = sym (set_here p.objects id (as_placed item.1)) ∙ ap (λ (thing : Thing). get (put_one p thing item.1).objects id) (sym same) ∙ s.1 in
        inl (record {
          item = item;
          there = inl refl;
          gives = ap (λ (thing : Thing). given_row (thing, item.1)) same ∙ given_as id placed item.1 row;
        })
    by false t s = inr (ap (λ b. b || has_thing (is_object id) items) t ∙ s.0, sym (one_apart p id item.0 item.1 t) ∙ s.1)

-- a change has the objects that it gives
pub given_has : (item : Item) (id : ℕ) (placed : Placed) → given_row item ≡ Some (id, placed) → item ≡ (things.Object id, Some (values.Object placed))
given_has (things.Object other, None) id placed e = absurd (cc e)
given_has (things.Object other, Some (values.Object x)) id placed e =
    let same : (other, x) ≡ (id, placed) = cc e in
    ap (λ (row : ℕ × Placed). (things.Object row.0, Some (values.Object row.1))) same
given_has (things.Object other, Some (values.Head x)) id placed e = absurd (cc e)
given_has (things.Object other, Some (values.Symbol x)) id placed e = absurd (cc e)
given_has (things.SheetName name, value) id placed e = absurd (cc e)
given_has (things.SymbolName name, value) id placed e = absurd (cc e)

pub has_member : (is : Thing → Bool) (item : Item) (items : List Item) → In item items → is item.0 ≡ true → has_thing is items ≡ true
has_member is item [] h e = absurd h
has_member is item (x ∷ items) (inl same) e = ap (λ b. b || has_thing is items) (ap (λ (y : Item). is y.0) same ∙ e)
has_member is item (x ∷ items) (inr h) e = either (is x.0) (has_member is item items h e)
  where
    either : (a : Bool) {b : Bool} → b ≡ true → (a || b) ≡ true
    either true e = refl
    either false e = e

pub given_own : (items : List Item) (id : ℕ) (placed : Placed) → IsGiven items id placed → has_thing (is_object id) items ≡ true
given_own items id placed g =
    has_member (is_object id) g.item items g.there (ap (λ (x : Item). is_object id x.0) (given_has g.item id placed g.gives) ∙ is_itself id)

-- a change has no thing twice
pub things_distinct : (items : List Item) → AreDistinct items → Distinct (map (λ (item : Item). item.0) items)
things_distinct [] d = tt
things_distinct (x ∷ items) d = (first, things_distinct items (λ i j z lt within. d (suc i) (suc j) z (omega (arith, lt)) (omega (arith, within))))
  where
    first : In x.0 (map (λ (item : Item). item.0) items) → ⊥
    first h =
        let m = mapped (λ (item : Item). item.0) x.0 items h in
        let c = in_contains m.of items m.there in
        d zero (suc c.0) m.of (omega arith) (omega (arith, c.1)) (sym m.is ∙ sym (ap (λ (item : Item). item.0) c.2))

lacks : (id : ℕ) (items : List Item) → (In (things.Object id) (map (λ (item : Item). item.0) items) → ⊥) → has_thing (is_object id) items ≡ false
lacks id [] none = refl
lacks id (x ∷ items) none = by (is_object id x.0) refl (lacks id items (λ h. none (inr h)))
  where
    by : (b : Bool) → is_object id x.0 ≡ b → has_thing (is_object id) items ≡ false → has_thing (is_object id) (x ∷ items) ≡ false
    by true t rest = absurd (none (inl (is_that id x.0 t)))
    by false t rest = ap (λ b. b || has_thing (is_object id) items) t ∙ rest

-- an object that a change gives is there after it
pub given_stands : (p : ProjectData) (items : List Item) (id : ℕ) (placed : Placed) → Distinct (map (λ (item : Item). item.0) items) → (item : Item) → In item items
    → given_row item ≡ Some (id, placed) → get (put p items).objects id ≡ Some placed
given_stands p [] id placed d item h e = absurd h
given_stands p (x ∷ items) id placed d item (inr h) e = given_stands (put_one p x.0 x.1) items id placed d.1 item h e
given_stands p (x ∷ items) id placed d item (inl same) e =
    let is : x ≡ (things.Object id, Some (values.Object placed)) = same ∙ given_has item id placed e in
    let none = lacks id items (subst (λ (t : Thing). In t (map (λ (y : Item). y.0) items) → ⊥) (ap (λ (y : Item). y.0) is) d.0) in
    objects_apart (put_one p x.0 x.1) items id none
    ∙ ap (λ (y : Item). get (put_one p y.0 y.1).objects id) is
    ∙ set_here p.objects id (Some placed)

symbol_apart : (p : ProjectData) (name : List ℕ) (thing : Thing) (value : Option Value) → is_symbol name thing ≡ false → get (put_one p thing value).symbols name ≡ get p.symbols name
symbol_apart p name (things.Object other) value e = refl
symbol_apart p name (things.SheetName other) value e = refl
symbol_apart p name (things.SymbolName other) value e = go (as_symbol value)
  where
    apart : (b : Bool) → bytes_eq name other ≡ b → bytes_eq name other ≡ false
    apart true t = absurd (let p : true ≡ false = sym ((bytes_eq-Decides other name).1 (sym ((bytes_eq-Decides name other).0 t))) ∙ e in cc)
    apart false t = t

    ties : eq_by_cmp (slice_cmp nat_cmp) name other ≡ false
    ties = sym (names.agree name other) ∙ apart (bytes_eq name other) refl

    go : (o : Option SymbolData) → get (set_row p.symbols other o) name ≡ get p.symbols name
    go None = get-remove names.total p.symbols other name ∙ ap (λ b. cond b None (get p.symbols name)) ties
    go (Some x) = get-insert names.total p.symbols other x name ∙ ap (λ b. cond b (Some x) (get p.symbols name)) ties

-- a symbol that a change does not have stays
pub symbols_apart : (p : ProjectData) (items : List Item) (name : List ℕ) → has_thing (is_symbol name) items ≡ false → get (put p items).symbols name ≡ get p.symbols name
symbols_apart p [] name e = refl
symbols_apart p (item ∷ items) name e =
    let parts = neither (is_symbol name item.0) (has_thing (is_symbol name) items) e in
    symbols_apart (put_one p item.0 item.1) items name parts.1 ∙ symbol_apart p name item.0 item.1 parts.0

-- nothing is drawn of a component that has no pins
nothing_drawn : (o : ObjectData) (c : ComponentData) (a : Option SymbolData) → o.body ≡ bodies.Component c → has_no_pins o a ≡ true → conductors_of o a ≡ []
nothing_drawn o c a body e = let flat = rw body at e in rw (body, flat) refl

-- an attribute of an object depends on the parts of its symbol alone
attr_alike : (o : ObjectData) (a b : Option SymbolData) (name : List ℕ) → parts_of o a ≡ parts_of o b → attr o a name ≡ attr o b name
unfolding attr attrs
attr_alike o a b name same = ap (λ (ps : List PartData). slice_get (or_else (attached o name) (values_named name (filter_map free_text ps))) 0) same

abbrev object : Body → List TextData → ObjectData
object body attrs = record { body = body; attrs = attrs }

-- so does whether it is a directive
directive_alike : (body : Body) (texts : List TextData) (a b : Option SymbolData) → parts_of (object body texts) a ≡ parts_of (object body texts) b
    → is_directive (object body texts) a ≡ is_directive (object body texts) b
directive_alike (bodies.Shape s) texts a b same = refl
directive_alike (bodies.Component c) texts a b same =
    let o : ObjectData = object (bodies.Component c) texts in
    let device = attr_alike o a b (codes "device") same in
    let value = attr_alike o a b (codes "value") same in
    λ i. is_value (codes "DRC_Directive") (device i) && is_value (codes "NoConnection") (value i)

-- and whether it has no pins
no_pins_alike : (o : ObjectData) (a b : Option SymbolData) → parts_of o a ≡ parts_of o b → has_no_pins o a ≡ has_no_pins o b
no_pins_alike o a b same =
    let graphical = attr_alike o a b (codes "graphical") same in
    let directive = directive_alike o.body o.attrs a b same in
    λ i. is_value (codes "1") (graphical i) && not (directive i)

-- what is drawn of a component depends on the parts of its symbol alone
drawn_alike : (o : ObjectData) (c : ComponentData) (a b : Option SymbolData) → o.body ≡ bodies.Component c → parts_of o a ≡ parts_of o b → conductors_of o a ≡ conductors_of o b
drawn_alike o c a b body same = by (has_no_pins o a) refl
  where
    by : (t : Bool) → has_no_pins o a ≡ t → conductors_of o a ≡ conductors_of o b
    by true e = nothing_drawn o c a body e ∙ sym (nothing_drawn o c b body (sym (no_pins_alike o a b same) ∙ e))
    by false e =
        conductors_of-component o a c body e
        ∙ ap (λ (ps : List PartData). ends_from c 0 (symbol_pins ps)) same
        ∙ sym (conductors_of-component o b c body (sym (no_pins_alike o a b same) ∙ e))

-- what is drawn of an object whose library symbol a change does not have stays
pub drawn_stays : (p : ProjectData) (items : List Item) (o : ObjectData) → has_symbol_of items o ≡ false → conductors_of o (library_of (put p items) o) ≡ conductors_of o (library_of p o)
drawn_stays p items o e = by o.body refl
  where
    named : (c : ComponentData) → o.body ≡ bodies.Component c → has_thing (is_symbol c.basename) items ≡ false → conductors_of o (library_of (put p items) o) ≡ conductors_of o (library_of p o)
    named c body none = ap (conductors_of o) (rw body (ap (λ (found : Option SymbolData). if is_name c.basename then found else None) (symbols_apart p items c.basename none)))

    of_parts : (c : ComponentData) (parts : Option (List PartData)) → o.body ≡ bodies.Component c → c.embedded ≡ parts → conductors_of o (library_of (put p items) o) ≡ conductors_of o (library_of p o)
    of_parts c None body is = named c body (let h : has_symbol_of items o ≡ false = e in let k : has_symbol items c.basename c.embedded ≡ false = rw body at h in rw is at k)
    of_parts c (Some parts) body is = drawn_alike o c (library_of (put p items) o) (library_of p o) body (rw (body, is) refl)

    by : (body : Body) → o.body ≡ body → conductors_of o (library_of (put p items) o) ≡ conductors_of o (library_of p o)
    by (bodies.Shape s) is = ap (conductors_of o) (rw is refl)
    by (bodies.Component c) is = of_parts c c.embedded is refl
