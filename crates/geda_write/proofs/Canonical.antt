-- The texts of rows, put together, are the canonical texts.
use Rattle.std.proofs.Common.{◌≡◌, ℕ, ◌<◌, List, [], ◌∷◌, ◌++◌, length, map, Option, Some, None, refl, ap, ◌∙◌, arith}
use Rattle.std.specs.List.{flat_map}
use Rattle.std.proofs.lemmas.Grind.{flat_map-append}
use Rattle.std.proofs.lemmas.List.{append-nil}
use Rattle.geda_defs.specs.Lines.{ended}
use Rattle.geda_model.specs.Data.{TextData}
use Rattle.geda_model.specs.Shapes.{PartData, ComponentData}
use Rattle.geda_model.specs.Sheets.{ObjectData}
use Rattle.geda_model.specs.declared.object.Body.{Body}
use Rattle.geda_model.specs.declared.object.Body.TheVariants as bodies
use Rattle.geda_grammar.specs.declared.row.Row.{Row}
use Rattle.geda_grammar.specs.declared.row.Row.TheVariants.{Drawn, Library, Embedding, OpenBlock, CloseBlock, OpenSymbol, CloseSymbol}
use Rattle.geda_grammar.specs.Rows.{component_line_of}
use Rattle.geda_grammar.specs.Canonical.{row_lines, text_row, attached_rows, part_rows, component_rows, body_rows, object_rows, rows_text}
use Rattle.geda_write.specs.steps.Texts.{row_text, text_text, attached_text, part_text, component_text, body_text, whole_text}

pub attached_nothing : (texts : List TextData) → length texts < 1 → attached_text texts ≡ []
attached_nothing [] few = refl
attached_nothing (t ∷ ts) few = absurd (omega (arith, few))

-- rows one after the other
rows_cons : (row : Row) (rows : List Row) → rows_text (row ∷ rows) ≡ row_text row ++ rows_text rows
rows_cons row rows = flat_map-append ended (row_lines row) (flat_map row_lines rows)

rows_append : (rows others : List Row) → rows_text (rows ++ others) ≡ rows_text rows ++ rows_text others
rows_append rows others = ap (flat_map ended) (flat_map-append row_lines rows others) ∙ flat_map-append ended (flat_map row_lines rows) (flat_map row_lines others)

-- items, each by its rows
rows_each : {X : Type 0} (rows : X → List Row) (text : X → List ℕ) → ((x : X) → rows_text (rows x) ≡ text x) → (items : List X) → rows_text (flat_map rows items) ≡ flat_map text items
rows_each rows text one [] = refl
rows_each rows text one (x ∷ items) = rows_append (rows x) (flat_map rows items) ∙ ap (λ (bs : List ℕ). bs ++ rows_text (flat_map rows items)) (one x) ∙ ap (λ (bs : List ℕ). text x ++ bs) (rows_each rows text one items)

rows_map : (texts : List TextData) → rows_text (map text_row texts) ≡ flat_map text_text texts
rows_map [] = refl
rows_map (t ∷ ts) = rows_cons (text_row t) (map text_row ts) ∙ ap (λ (bs : List ℕ). text_text t ++ bs) (rows_map ts)

one_row : (row : Row) → rows_text (row ∷ []) ≡ row_text row
one_row row = rows_cons row [] ∙ append-nil (row_text row)

-- rows between two brackets
between : (first last : Row) (rows : List Row) → rows_text (first ∷ (rows ++ last ∷ [])) ≡ row_text first ++ (rows_text rows ++ row_text last)
between first last rows = rows_cons first (rows ++ last ∷ []) ∙ ap (λ (bs : List ℕ). row_text first ++ bs) (rows_append rows (last ∷ []) ∙ ap (λ (bs : List ℕ). rows_text rows ++ bs) (one_row last))

attached : (texts : List TextData) → rows_text (attached_rows texts) ≡ attached_text texts
attached [] = refl
attached (t ∷ ts) = between OpenBlock CloseBlock (map text_row (t ∷ ts)) ∙ ap (λ (bs : List ℕ). row_text OpenBlock ++ (bs ++ row_text CloseBlock)) (rows_map (t ∷ ts))

part : (p : PartData) → rows_text (part_rows p) ≡ part_text p
part p = rows_cons (Drawn p.shape) (attached_rows p.attrs) ∙ ap (λ (bs : List ℕ). row_text (Drawn p.shape) ++ bs) (attached p.attrs)

pub parts : (ps : List PartData) → rows_text (flat_map part_rows ps) ≡ flat_map part_text ps
parts ps = rows_each part_rows part_text part ps

component : (c : ComponentData) (embedded : Option (List PartData)) → rows_text (component_rows c embedded) ≡ component_text c embedded
component c None = one_row (Library (component_line_of c))
component c (Some ps) =
    rows_cons (Embedding (component_line_of c)) (OpenSymbol ∷ (flat_map part_rows ps ++ CloseSymbol ∷ []))
    ∙ ap (λ (bs : List ℕ). row_text (Embedding (component_line_of c)) ++ bs) (between OpenSymbol CloseSymbol (flat_map part_rows ps) ∙ ap (λ (bs : List ℕ). row_text OpenSymbol ++ (bs ++ row_text CloseSymbol)) (parts ps))

body : (b : Body) → rows_text (body_rows b) ≡ body_text b
body (bodies.Shape s) = one_row (Drawn s)
body (bodies.Component c) = component c c.embedded

pub object : (o : ObjectData) → rows_text (object_rows o) ≡ whole_text o
object o = rows_append (body_rows o.body) (attached_rows o.attrs) ∙ ap (λ (bs : List ℕ). bs ++ rows_text (attached_rows o.attrs)) (body o.body) ∙ ap (λ (bs : List ℕ). body_text o.body ++ bs) (attached o.attrs)

pub objects : (os : List ObjectData) → rows_text (flat_map object_rows os) ≡ flat_map whole_text os
objects os = rows_each object_rows whole_text object os
