-- Steps of the code; no public clause cites them.
-- The canonical text of each row and of what rows make.
use Rattle.std.specs.Prelude.{ℕ, ℤ, List, [], ◌∷◌, ◌++◌, Option, Some, None, codes}
use Rattle.std.specs.List.{flat_map}
use Rattle.std.specs.Fmt.{signed_decimal}
use Rattle.geda_defs.specs.Lines.{ended}
use Rattle.geda_model.specs.Data.{TextData}
use Rattle.geda_model.specs.Shapes.{PartData, ComponentData}
use Rattle.geda_model.specs.Sheets.{ObjectData}
use Rattle.geda_model.specs.declared.object.Body.{Body}
use Rattle.geda_model.specs.declared.object.Body.TheVariants as bodies
use Rattle.geda_grammar.specs.Classes.{Field, Number}
use Rattle.geda_grammar.specs.declared.row.Row.{Row}
use Rattle.geda_grammar.specs.declared.row.Row.TheVariants.{Drawn, Library, Embedding, OpenBlock, CloseBlock, OpenSymbol, CloseSymbol}
use Rattle.geda_grammar.specs.Components.{ComponentLineData}
use Rattle.geda_grammar.specs.Rows.{bit, component_fields, component_line_of, natural}
use Rattle.geda_grammar.specs.Canonical.{field_text, row_lines, text_row}

-- numbers and fields, each behind a space
abbrev pub numbers_text : List ℤ → List ℕ
numbers_text numbers = flat_map (λ z. 32 ∷ signed_decimal z) numbers

abbrev pub fields_text : List Field → List ℕ
fields_text fields = flat_map (λ f. 32 ∷ field_text f) fields

-- the lines of a row
abbrev pub row_text : Row → List ℕ
row_text row = flat_map ended (row_lines row)

-- the data of a picture, with the point behind it
abbrev pub data_text : Option (List ℕ) → List ℕ
data_text None = []
data_text (Some bytes) = bytes ++ ended (codes ".")

-- the line of a component, by the word that names its symbol
abbrev pub component_line_text : ComponentLineData → List ℕ → List ℕ
component_line_text p name = ended (67 ∷ fields_text (component_fields p name))

-- the same as far as its last field
abbrev pub placement_text : ComponentData → List ℕ
placement_text c =
    67 ∷ fields_text (Number c.x ∷ Number c.y ∷ bit c.selectable ∷ natural c.angle
    ∷ bit c.mirror ∷ [])

-- attached texts
abbrev pub text_text : TextData → List ℕ
text_text t = row_text (text_row t)

abbrev pub block_text : List TextData → List ℕ
block_text texts = row_text OpenBlock ++ (flat_map text_text texts ++ row_text CloseBlock)

abbrev pub attached_text : List TextData → List ℕ
attached_text [] = []
attached_text (t ∷ ts) = block_text (t ∷ ts)

-- a part, and the symbol that parts make
abbrev pub part_text : PartData → List ℕ
part_text p = row_text (Drawn p.shape) ++ attached_text p.attrs

abbrev pub symbol_rows_text : List PartData → List ℕ
symbol_rows_text parts = row_text OpenSymbol ++ (flat_map part_text parts ++ row_text CloseSymbol)

-- a component by its symbol, what an object is, and an object
abbrev pub component_text : ComponentData → Option (List PartData) → List ℕ
component_text c None = row_text (Library (component_line_of c))
component_text c (Some parts) = row_text (Embedding (component_line_of c)) ++ symbol_rows_text parts

abbrev pub body_text : Body → List ℕ
body_text (bodies.Shape s) = row_text (Drawn s)
body_text (bodies.Component c) = component_text c c.embedded

abbrev pub whole_text : ObjectData → List ℕ
whole_text o = body_text o.body ++ attached_text o.attrs
