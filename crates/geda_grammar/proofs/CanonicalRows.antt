-- The canonical rows of objects spell these objects.
use Rattle.std.proofs.Common.{◌≡◌, ℕ, ◌≤◌, List, [], ◌∷◌, ◌++◌, length, map, Option, Some, None, refl, sym, subst, ◌∙◌, append_assoc, inl}
use Rattle.std.specs.List.{flat_map, AllByRecursion}
use Rattle.std.proofs.lemmas.List.{append-nil}
use Rattle.geda_model.specs.Data.{TextData}
use Rattle.geda_model.specs.Shapes.{PartData, ComponentData}
use Rattle.geda_model.specs.Sheets.{ObjectData}
use Rattle.geda_model.specs.declared.object.Body.{Body}
use Rattle.geda_model.specs.declared.object.Body.TheVariants as bodies
use Rattle.geda_grammar.specs.declared.row.Row.{Row}
use Rattle.geda_grammar.specs.declared.row.Row.TheVariants.{CloseBlock, CloseSymbol}
use Rattle.geda_grammar.specs.Grammar.{End, ThenRow, ThenEach, ThenText, ThenAttached, ThenPart, ThenComponent, ThenBody, ThenObject, SpellObjects, SpellParts}
use Rattle.geda_grammar.specs.Canonical.{text_row, attached_rows, part_rows, component_rows, body_rows, object_rows}

-- the symbols of objects have at most 100,000 parts each
abbrev pub SymbolIsFew : Option (List PartData) → Type 0
SymbolIsFew None = Unit {0}
SymbolIsFew (Some parts) = length parts ≤ 100000

abbrev pub BodyIsFew : Body → Type 0
BodyIsFew (bodies.Shape s) = Unit {0}
BodyIsFew (bodies.Component c) = SymbolIsFew c.embedded

abbrev pub IsFew : ObjectData → Type 0
IsFew o = BodyIsFew o.body

-- rows and what follows them
texts_then : (ts : List TextData) (rest : List Row → Type 0) (rows : List Row) → rest rows → ThenEach ThenText ts (ThenRow CloseBlock rest) (map text_row ts ++ CloseBlock ∷ rows)
texts_then [] rest rows h = (refl, h)
texts_then (t ∷ ts) rest rows h = (refl, texts_then ts rest rows h)

attached_then : (ts : List TextData) (rest : List Row → Type 0) (rows : List Row) → rest rows → ThenAttached ts rest (attached_rows ts ++ rows)
attached_then [] rest rows h = inl h
attached_then (t ∷ ts) rest rows h = (refl, subst (λ (rs : List Row). ThenEach ThenText (t ∷ ts) (ThenRow CloseBlock rest) rs) (sym (append_assoc (map text_row (t ∷ ts)) (CloseBlock ∷ []) rows)) (texts_then (t ∷ ts) rest rows h))

parts_then : (ps : List PartData) (rest : List Row → Type 0) (rows : List Row) → rest rows → ThenEach ThenPart ps rest (flat_map part_rows ps ++ rows)
parts_then [] rest rows h = h
parts_then (p ∷ ps) rest rows h =
    let others = parts_then ps rest rows h in
    let one = attached_then p.attrs (ThenEach ThenPart ps rest) (flat_map part_rows ps ++ rows) others in
    (refl, subst (λ (rs : List Row). ThenAttached p.attrs (ThenEach ThenPart ps rest) rs) (sym (append_assoc (attached_rows p.attrs) (flat_map part_rows ps) rows)) one)

component_then : (c : ComponentData) (e : Option (List PartData)) (rest : List Row → Type 0) (rows : List Row) → SymbolIsFew e → rest rows → ThenComponent c e rest (component_rows c e ++ rows)
component_then c None rest rows few h = (refl, h)
component_then c (Some parts) rest rows few h =
    let inner = parts_then parts (ThenRow CloseSymbol rest) (CloseSymbol ∷ rows) (refl, h) in
    (refl, (few, (refl, subst (λ (rs : List Row). ThenEach ThenPart parts (ThenRow CloseSymbol rest) rs) (sym (append_assoc (flat_map part_rows parts) (CloseSymbol ∷ []) rows)) inner)))

body_then : (b : Body) (rest : List Row → Type 0) (rows : List Row) → BodyIsFew b → rest rows → ThenBody b rest (body_rows b ++ rows)
body_then (bodies.Shape s) rest rows few h = (refl, h)
body_then (bodies.Component c) rest rows few h = component_then c c.embedded rest rows few h

objects_then : (os : List ObjectData) (rest : List Row → Type 0) (rows : List Row) → AllByRecursion IsFew os → rest rows → ThenEach ThenObject os rest (flat_map object_rows os ++ rows)
objects_then [] rest rows few h = h
objects_then (o ∷ os) rest rows few h =
    let others = objects_then os rest rows few.1 h in
    let attrs = attached_then o.attrs (ThenEach ThenObject os rest) (flat_map object_rows os ++ rows) others in
    let one = body_then o.body (ThenAttached o.attrs (ThenEach ThenObject os rest)) (attached_rows o.attrs ++ (flat_map object_rows os ++ rows)) few.0 attrs in
    let same : (object_rows o ++ flat_map object_rows os) ++ rows ≡ body_rows o.body ++ (attached_rows o.attrs ++ (flat_map object_rows os ++ rows)) = append_assoc (object_rows o) (flat_map object_rows os) rows ∙ append_assoc (body_rows o.body) (attached_rows o.attrs) (flat_map object_rows os ++ rows) in
    subst (λ (rs : List Row). ThenObject o (ThenEach ThenObject os rest) rs) (sym same) one

-- the canonical rows spell the objects, and the parts of a symbol
pub objects_canonical : (most : ℕ) (os : List ObjectData) → length os ≤ most → AllByRecursion IsFew os → SpellObjects most os (flat_map object_rows os)
objects_canonical most os n few = record { few = n; each = subst (λ (rs : List Row). ThenEach ThenObject os End rs) (append-nil (flat_map object_rows os)) (objects_then os End [] few refl) }

pub parts_canonical : (ps : List PartData) → length ps ≤ 100000 → SpellParts ps (flat_map part_rows ps)
parts_canonical ps n = record { few = n; each = subst (λ (rs : List Row). ThenEach ThenPart ps End rs) (append-nil (flat_map part_rows ps)) (parts_then ps End [] refl) }
