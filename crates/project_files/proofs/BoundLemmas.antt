-- Texts have no more bytes than is told of them.
use Rattle.std.proofs.Common.{◌≡◌, inl, inr, ℕ, ◌+◌, ◌-◌, ◌^◌, ◌≤◌, ℤ, pos, negsuc, Bool, true, false, List, [], ◌∷◌, ◌++◌, map, length, min, Option, Some, None, All, refl, sym, ap, ◌∙◌, arith}
use Rattle.std.specs.Prelude.{unsigned_abs, if◌then◌else◌}
use Rattle.std.specs.List.{flat_map, join_with_byte, slice_split, sum_by, AllByRecursion}
use Rattle.std.specs.Fmt.{signed_decimal}
use Rattle.std.proofs.lemmas.Fmt.{length_signed_le}
use Rattle.std.proofs.lemmas.Grind.{flat_map-append}
use Rattle.std.proofs.lemmas.List.{length-append}
use Rattle.std.proofs.lemmas.List.Elements.{recursion_from_All}
use Rattle.std.proofs.lemmas.List.Splits.{length-slice_split, join_with_byte-slice_split}
use Rattle.std.proofs.lemmas.List.Sums.{sum_by-cons}
use Rattle.geda_defs.specs.Lines.{ended, is_line_feed}
use Rattle.geda_model.specs.Data.{TextData}
use Rattle.geda_model.specs.Ranges.{IsAngle, IsText, line_feeds}
use Rattle.geda_model.specs.Shapes.{ComponentData, IsComponent, PartData, ShapeIsInRange}
use Rattle.geda_model.specs.Sheets.{BodyIsInRange, ObjectData, ObjectIsInRange}
use Rattle.geda_model.specs.declared.object.Body.{Body}
use Rattle.geda_model.specs.declared.object.Body.TheVariants as bodies
use Rattle.geda_model.specs.declared.shape.Shape.{Shape}
use Rattle.geda_model.specs.declared.shape.Shape.TheVariants as shapes
use Rattle.geda_grammar.specs.Classes.{Field, Number, Word}
use Rattle.geda_grammar.specs.Letters.{byte_of}
use Rattle.geda_grammar.specs.Rows.{component_line_of, letter_of_row, row_fields}
use Rattle.geda_grammar.specs.declared.row.Row.{Row}
use Rattle.geda_grammar.specs.declared.row.Row.TheVariants.{Drawn, Library, OpenBlock, CloseBlock}
use Rattle.geda_grammar.specs.Canonical.{attached_rows, body_rows, component_rows, field_text, following, object_text, row_lines, rows_text, text_row}
use Rattle.project_files.specs.steps.Bounds.{attached_most, body_most, shape_most, symbol_most, text_most}

-- lists behind a first one, each with a byte before it
abbrev behind : List (List ℕ) → ℕ
behind words = sum_by (λ (w : List ℕ). 1 + length w) words

length_joined : (b : ℕ) (word : List ℕ) (words : List (List ℕ)) → length (join_with_byte b (word ∷ words)) ≡ length word + behind words
length_joined b word [] = omega arith
length_joined b word (next ∷ words) =
    let whole : length (join_with_byte b (word ∷ next ∷ words)) ≡ length word + length (b ∷ join_with_byte b (next ∷ words)) = length-append word (b ∷ join_with_byte b (next ∷ words)) in
    let rest = length_joined b next words in
    let more : behind (next ∷ words) ≡ (1 + length next) + behind words = sum_by-cons (λ (w : List ℕ). 1 + length w) next words in
    omega (arith, whole, rest, more)

-- lines, each ended
length_ended : (lines : List (List ℕ)) → length (flat_map ended lines) ≡ behind lines
length_ended [] = refl
length_ended (line ∷ lines) =
    let whole : length (flat_map ended (line ∷ lines)) ≡ length (ended line) + length (flat_map ended lines) = length-append (ended line) (flat_map ended lines) in
    let own : length (ended line) ≡ length line + 1 = length-append line (10 ∷ []) in
    let rest = length_ended lines in
    let more : behind (line ∷ lines) ≡ (1 + length line) + behind lines = sum_by-cons (λ (w : List ℕ). 1 + length w) line lines in
    omega (arith, whole, own, rest, more)

-- the lines of a content, each ended, are one byte more
length_content : (content : List ℕ) → length (flat_map ended (slice_split is_line_feed content)) ≡ length content + 1
length_content content = go (slice_split is_line_feed content) refl
  where
    go : (lines : List (List ℕ)) → slice_split is_line_feed content ≡ lines → length (flat_map ended lines) ≡ length content + 1
    go [] e = absurd (let n = ap length (sym e) ∙ length-slice_split is_line_feed content in omega (arith, n))
    go (line ∷ lines) e =
        let all = length_ended (line ∷ lines) in
        let more : behind (line ∷ lines) ≡ (1 + length line) + behind lines = sum_by-cons (λ (w : List ℕ). 1 + length w) line lines in
        let joined = length_joined 10 line lines in
        let same : length (join_with_byte 10 (line ∷ lines)) ≡ length content = ap (λ (ls : List (List ℕ)). length (join_with_byte 10 ls)) (sym e) ∙ ap length (join_with_byte-slice_split 10 content) in
        omega (arith, all, more, joined, same)

-- a field of at most eight bytes, or a word of at most 200, with the space before it
abbrev IsShort : Field → Type 0
IsShort (Number z) = unsigned_abs z ≤ 1000000
IsShort (Word bytes) = length bytes ≤ 200

abbrev field_most : Field → ℕ
field_most (Number z) = 9
field_most (Word bytes) = 201

number_short : (z : ℤ) → unsigned_abs z ≤ 1000000 → length (signed_decimal z) ≤ 8
number_short (pos n) h = length_signed_le 7 (pos n) (omega (arith, h)) (omega (arith, h))
number_short (negsuc n) h = length_signed_le 7 (negsuc n) (omega (arith, h)) (omega (arith, h))

field_short : (f : Field) → IsShort f → 1 + length (field_text f) ≤ field_most f
field_short (Number z) h = let n = number_short z h in omega (arith, n)
field_short (Word bytes) h = omega (arith, h)

fields_short : (fields : List Field) → AllByRecursion IsShort fields → behind (map field_text fields) ≤ sum_by field_most fields
fields_short [] h = omega arith
fields_short (f ∷ fields) h =
    let one = field_short f h.0 in
    let rest = fields_short fields h.1 in
    let more : behind (map field_text (f ∷ fields)) ≡ (1 + length (field_text f)) + behind (map field_text fields) = sum_by-cons (λ (w : List ℕ). 1 + length w) (field_text f) (map field_text fields) in
    let most : sum_by field_most (f ∷ fields) ≡ field_most f + sum_by field_most fields = sum_by-cons field_most f fields in
    omega (arith, one, rest, more, most)

-- the text of a row: its letter and its fields, and the lines that follow it
abbrev row_text : Row → List ℕ
row_text row = flat_map ended (row_lines row)

row_short : (row : Row) (most rest : ℕ) → AllByRecursion IsShort (row_fields row (length (following row)))
    → sum_by field_most (row_fields row (length (following row))) ≡ most → length (flat_map ended (following row)) ≡ rest
    → length (row_text row) ≤ 2 + most + rest
row_short row most rest short total behind_it =
    let letter = byte_of (letter_of_row row) ∷ [] in
    let fields = row_fields row (length (following row)) in
    let words = map field_text fields in
    let line = join_with_byte 32 (letter ∷ words) in
    let all : length (row_text row) ≡ length (ended line) + length (flat_map ended (following row)) = length-append (ended line) (flat_map ended (following row)) in
    let end : length (ended line) ≡ length line + 1 = length-append line (10 ∷ []) in
    let own : length line ≡ 1 + behind words = length_joined 32 letter words in
    let each : behind words ≤ sum_by field_most fields = fields_short fields short in
    omega (arith, all, end, own, each, total, behind_it)

-- rows one after the other
length_cons : (row : Row) (rows : List Row) → length (rows_text (row ∷ rows)) ≡ length (row_text row) + length (rows_text rows)
length_cons row rows = ap length (flat_map-append ended (row_lines row) (flat_map row_lines rows)) ∙ length-append (row_text row) (rows_text rows)

length_rows : (rows others : List Row) → length (rows_text (rows ++ others)) ≡ length (rows_text rows) + length (rows_text others)
length_rows rows others =
    ap (λ (ls : List (List ℕ)). length (flat_map ended ls)) (flat_map-append row_lines rows others)
    ∙ ap length (flat_map-append ended (flat_map row_lines rows) (flat_map row_lines others))
    ∙ length-append (rows_text rows) (rows_text others)

angle_small : (a : ℕ) → IsAngle a → a ≤ 270
angle_small a (inl e) = omega (arith, e)
angle_small a (inr (inl e)) = omega (arith, e)
angle_small a (inr (inr (inl e))) = omega (arith, e)
angle_small a (inr (inr (inr e))) = omega (arith, e)

bit_small : (b : Bool) → (if b then 1 else 0) ≤ 1000000
bit_small true = omega arith
bit_small false = omega arith

text_short : (t : TextData) → IsText t → length (row_text (text_row t)) ≤ text_most t
text_short t is =
    let angle = angle_small t.angle is.angle in
    let count : length (slice_split is_line_feed t.content) ≡ line_feeds t.content + 1 = length-slice_split is_line_feed t.content in
    let lines : length (slice_split is_line_feed t.content) ≤ 1000000 = omega (arith, count, is.content.lines) in
    let row = row_short (text_row t) 81 (length t.content + 1) (omega (arith, is.x), (omega (arith, is.y), (is.color, (is.size, (omega (arith, is.visible), (omega (arith, is.show), (omega (arith, angle), (omega (arith, is.align), (lines, tt))))))))) refl (length_content t.content) in
    omega (arith, row)

texts_short : (texts : List TextData) → AllByRecursion IsText texts → length (rows_text (map text_row texts)) ≤ sum_by text_most texts
texts_short [] h = omega arith
texts_short (t ∷ texts) h =
    let whole : length (rows_text (map text_row (t ∷ texts))) ≡ length (row_text (text_row t)) + length (rows_text (map text_row texts)) = length_cons (text_row t) (map text_row texts) in
    let one = text_short t h.0 in
    let rest = texts_short texts h.1 in
    let most : sum_by text_most (t ∷ texts) ≡ text_most t + sum_by text_most texts = sum_by-cons text_most t texts in
    omega (arith, whole, one, rest, most)

attached_short : (texts : List TextData) → All IsText texts → length (rows_text (attached_rows texts)) ≤ attached_most texts
attached_short [] h = omega arith
attached_short (t ∷ texts) h =
    let inner = map text_row (t ∷ texts) in
    let open_row : length (row_text OpenBlock) ≡ 2 = refl in
    let close_row : length (rows_text (CloseBlock ∷ [])) ≡ 2 = refl in
    let first : length (rows_text (attached_rows (t ∷ texts))) ≡ length (row_text OpenBlock) + length (rows_text (inner ++ CloseBlock ∷ [])) = length_cons OpenBlock (inner ++ CloseBlock ∷ []) in
    let last = length_rows inner (CloseBlock ∷ []) in
    let each = texts_short (t ∷ texts) (recursion_from_All IsText (t ∷ texts) h) in
    omega (arith, open_row, close_row, first, last, each)

-- one row
one_row : (row : Row) (most : ℕ) → length (row_text row) ≤ most → length (rows_text (row ∷ [])) ≤ most
one_row row most h =
    let whole : length (rows_text (row ∷ [])) ≡ length (row_text row) + 0 = length_cons row [] in
    omega (arith, whole, h)

shape_short : (s : Shape) (most : ℕ) → ShapeIsInRange s → shape_most s ≡ Some most → min (length (rows_text (Drawn s ∷ []))) (2 ^ 64 - 1) ≤ most
shape_short (shapes.Net x1 y1 x2 y2 color) most is e =
    let row = row_short (Drawn (shapes.Net x1 y1 x2 y2 color)) 45 0 (omega (arith, is.x1), (omega (arith, is.y1), (omega (arith, is.x2), (omega (arith, is.y2), (is.color, tt))))) refl refl in
    let whole = one_row (Drawn (shapes.Net x1 y1 x2 y2 color)) 47 row in
    let own : 50 ≡ most = cc in
    omega (arith, whole, own)
shape_short (shapes.Text t) most is e =
    let whole = one_row (Drawn (shapes.Text t)) (text_most t) (text_short t is) in
    let own : min (text_most t) (2 ^ 64 - 1) ≡ most = cc in
    omega (arith, whole, own)
shape_short s most is e = absurd cc

component_short : (c : ComponentData) (embedded : Option (List PartData)) (most : ℕ) → IsComponent c → symbol_most embedded ≡ Some most → min (length (rows_text (component_rows c embedded))) (2 ^ 64 - 1) ≤ most
component_short c None most is e =
    let angle = angle_small c.angle is.angle in
    let row = row_short (Library (component_line_of c)) 246 0 (omega (arith, is.x), (omega (arith, is.y), (bit_small c.selectable, (omega (arith, angle), (bit_small c.mirror, (is.basename.short, tt)))))) refl refl in
    let whole = one_row (Library (component_line_of c)) 248 row in
    let own : 250 ≡ most = cc in
    omega (arith, whole, own)
component_short c (Some parts) most is e = absurd cc

body_short : (b : Body) (most : ℕ) → BodyIsInRange b → body_most b ≡ Some most → min (length (rows_text (body_rows b))) (2 ^ 64 - 1) ≤ most
body_short (bodies.Shape s) most is e = shape_short s most is e
body_short (bodies.Component c) most is e = component_short c c.embedded most is.own e

-- an object, by what is told of its body and of what is attached
pub object_short : (o : ObjectData) (most attached result : ℕ) → ObjectIsInRange o → body_most o.body ≡ Some most → attached ≡ min (attached_most o.attrs) (2 ^ 64 - 1) → result ≡ min (most + attached) (2 ^ 64 - 1)
    → min (length (object_text o)) (2 ^ 64 - 1) ≤ result
object_short o most attached result is e own all =
    let body = body_short o.body most is.body e in
    let texts = attached_short o.attrs is.attrs in
    let whole : length (object_text o) ≡ length (rows_text (body_rows o.body)) + length (rows_text (attached_rows o.attrs)) = length_rows (body_rows o.body) (attached_rows o.attrs) in
    omega (arith, body, texts, whole, own, all)
