-- The canonical text of a sheet, a symbol and an object: the one spelling that is written (own).
use Rattle.std.specs.Prelude.{ℕ, ◌-◌, List, [], ◌∷◌, ◌++◌, length, map, replicate, Option, Some, None, codes}
use Rattle.std.specs.List.{flat_map, slice_split}
use Rattle.std.specs.Fmt.{decimal, signed_decimal}
use Rattle.geda_defs.specs.Lines.{spaced, ended, is_line_feed}
use Rattle.geda_model.specs.Data.{TextData}
use Rattle.geda_model.specs.Shapes.{PartData, ComponentData}
use Rattle.geda_model.specs.Sheets.{ObjectData, HeadData, SheetData, SymbolData}
use Rattle.geda_model.specs.declared.shape.Shape.TheVariants as shapes
use Rattle.geda_model.specs.declared.object.Body.{Body}
use Rattle.geda_model.specs.declared.object.Body.TheVariants as bodies
use Rattle.geda_grammar.specs.Letters.{byte_of}
use Rattle.geda_grammar.specs.Classes.{Field, Number, Word}
use Rattle.geda_grammar.specs.declared.row.Row.{Row}
use Rattle.geda_grammar.specs.declared.row.Row.TheVariants.{Drawn, Library, Embedding, OpenBlock, CloseBlock, OpenSymbol, CloseSymbol}
use Rattle.geda_grammar.specs.Rows.{component_line_of, letter_of_row, row_fields}
use Rattle.geda_text.specs.Lines.{without_empty_end}

-- a field
abbrev pub field_text : Field → List ℕ
field_text (Number z) = signed_decimal z
field_text (Word bytes) = bytes

-- the lines that follow a shape
abbrev pub picture_lines : List ℕ → Option (List ℕ) → List (List ℕ)
picture_lines file None = file ∷ []
picture_lines file (Some bytes) =
    file ∷ (without_empty_end (slice_split is_line_feed bytes) ++ codes "." ∷ [])

abbrev pub following : Row → List (List ℕ)
following (Drawn (shapes.Text t)) = slice_split is_line_feed t.content
following (Drawn (shapes.Path color stroke fill content)) = slice_split is_line_feed content
following (Drawn (shapes.Picture x y width height angle mirrored file embedded)) =
    picture_lines file embedded
following row = []

-- a row: its letter, its fields with one space between them, and the lines that follow it
abbrev pub row_lines : Row → List (List ℕ)
row_lines row =
    spaced ((byte_of (letter_of_row row) ∷ []) ∷
    map field_text (row_fields row (length (following row)))) ∷ following row

-- attached texts, in a block where there is at least one
abbrev pub text_row : TextData → Row
text_row t = Drawn (shapes.Text t)

abbrev pub attached_rows : List TextData → List Row
attached_rows [] = []
attached_rows (t ∷ ts) = OpenBlock ∷ (map text_row (t ∷ ts) ++ CloseBlock ∷ [])

-- a part of a symbol
abbrev pub part_rows : PartData → List Row
part_rows p = Drawn p.shape ∷ attached_rows p.attrs

-- a component, by its symbol
abbrev pub component_rows : ComponentData → Option (List PartData) → List Row
component_rows c None = Library (component_line_of c) ∷ []
component_rows c (Some parts) =
    Embedding (component_line_of c) ∷ OpenSymbol ∷ (flat_map part_rows parts ++ CloseSymbol ∷ [])

-- an object
abbrev pub body_rows : Body → List Row
body_rows (bodies.Shape s) = Drawn s ∷ []
body_rows (bodies.Component c) = component_rows c c.embedded

abbrev pub object_rows : ObjectData → List Row
object_rows o = body_rows o.body ++ attached_rows o.attrs

-- the version line: eight digits of a date, and the format
abbrev pub head_line : HeadData → List ℕ
head_line h =
    spaced (codes "v" ∷ (replicate (8 - length (decimal h.date)) 48 ++ decimal h.date) ∷
    decimal h.format ∷ [])

-- the text of each, every line ended by LF
abbrev pub rows_text : List Row → List ℕ
rows_text rows = flat_map ended (flat_map row_lines rows)

abbrev pub head_text : HeadData → List ℕ
head_text h = ended (head_line h)

abbrev pub object_text : ObjectData → List ℕ
object_text o = rows_text (object_rows o)

abbrev pub symbol_text : SymbolData → List ℕ
symbol_text s = head_text s.head ++ rows_text (flat_map part_rows s.parts)

abbrev pub sheet_text : SheetData → List ℕ
sheet_text s = head_text s.head ++ rows_text (flat_map object_rows s.objects)
