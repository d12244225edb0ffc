-- What is written of a sheet is read again.
use Rattle.std.proofs.Common.{◌≡◌, ℕ, ◌-◌, ◌<◌, List, [], ◌∷◌, ◌++◌, length, map, replicate, Option, Some, None, refl, sym, ap, subst, ◌∙◌, arith, codes, inl, inr, ◌⊎◌}
use Rattle.std.specs.List.{flat_map, AllByRecursion}
use Rattle.std.specs.Fmt.{decimal}
use Rattle.std.proofs.lemmas.List.Elements.{recursion_from_All}
use Rattle.std.proofs.lemmas.Fmt.{decimal_digit}
use Rattle.geda_model.specs.Data.{TextData}
use Rattle.geda_model.specs.Ranges.{IsText}
use Rattle.geda_model.specs.Shapes.{PartData, ComponentData, PartIsInRange, IsComponent, EmbeddedIsInRange}
use Rattle.geda_model.specs.Sheets.{ObjectData, HeadData, SheetData, SymbolData, IsHead, BodyIsInRange, ObjectIsInRange}
use Rattle.geda_model.specs.declared.shape.Shape.TheVariants.{Text}
use Rattle.geda_model.specs.declared.object.Body.{Body}
use Rattle.geda_model.specs.declared.object.Body.TheVariants as bodies
use Rattle.geda_text.specs.Lines.{IsCutLine}
use Rattle.geda_grammar.specs.declared.row.Row.{Row}
use Rattle.geda_grammar.specs.Rows.{IsRow}
use Rattle.geda_grammar.specs.declared.row.Row.TheVariants.{CloseBlock, CloseSymbol}
use Rattle.geda_grammar.specs.Grammar.{SpellObjects}
use Rattle.geda_grammar.specs.Spelling.{SpellRows, IsVersionLine, SpellSheet, SpellSymbol, SpellObject, Spells}
use Rattle.geda_grammar.specs.Canonical.{text_row, attached_rows, part_rows, component_rows, body_rows, object_rows, row_lines, following, head_line, sheet_text, symbol_text, object_text}
use Rattle.geda_grammar.specs.Writable.{PartIsWritable, SymbolIsWritable, BodyIsWritable, ObjectIsWritable, WritableSheet, WritableSymbol, WritableObject}
use Rattle.std.proofs.lemmas.List.{append-nil}
use Rattle.geda_grammar.proofs.CanonicalRows.{IsFew, SymbolIsFew, BodyIsFew, objects_canonical, parts_canonical}
use Rattle.geda_grammar.proofs.FileLaws.{all_append}
use Rattle.geda_text.proofs.NumbersAgain.{date_again}
use Rattle.geda_text.proofs.WordsAgain.{IsGraphic, words_again, decimal_graphic, zeros_graphic}
use Rattle.geda_grammar.proofs.Writing.{rows_again, lines_again}
use Rattle.geda_grammar.proofs.Written.{IsWritten, shape_written, open_block_written, close_block_written, open_symbol_written, close_symbol_written, library_written, embedding_written, spaced_cut}

-- each row of these is written so that it is read
texts_written : (ts : List TextData) → AllByRecursion IsText ts → AllByRecursion IsWritten (map text_row ts)
texts_written [] h = tt
texts_written (t ∷ ts) h = (shape_written (Text t) h.0 tt, texts_written ts h.1)

attached_written : (ts : List TextData) → AllByRecursion IsText ts → AllByRecursion IsWritten (attached_rows ts)
attached_written [] h = tt
attached_written (t ∷ ts) h = (open_block_written, all_append IsWritten (map text_row (t ∷ ts)) (CloseBlock ∷ []) (texts_written (t ∷ ts) h) (close_block_written, tt))

parts_written : (ps : List PartData) → AllByRecursion PartIsInRange ps → AllByRecursion PartIsWritable ps → AllByRecursion IsWritten (flat_map part_rows ps)
parts_written [] h w = tt
parts_written (p ∷ ps) h w =
    all_append IsWritten (part_rows p) (flat_map part_rows ps) (shape_written p.shape h.0.shape w.0, attached_written p.attrs (recursion_from_All IsText p.attrs h.0.attrs)) (parts_written ps h.1 w.1)

component_written : (c : ComponentData) (e : Option (List PartData)) → IsComponent c → EmbeddedIsInRange e → SymbolIsWritable c.basename e → AllByRecursion IsWritten (component_rows c e)
component_written c None own h w = (library_written c own w, tt)
component_written c (Some parts) own h w =
    (embedding_written c own w.short, (open_symbol_written, all_append IsWritten (flat_map part_rows parts) (CloseSymbol ∷ []) (parts_written parts (recursion_from_All PartIsInRange parts h.each) (recursion_from_All PartIsWritable parts w.each)) (close_symbol_written, tt)))

body_written : (b : Body) → BodyIsInRange b → BodyIsWritable b → AllByRecursion IsWritten (body_rows b)
body_written (bodies.Shape s) h w = (shape_written s h w, tt)
body_written (bodies.Component c) h w = component_written c c.embedded h.own h.embedded w

objects_written : (os : List ObjectData) → AllByRecursion ObjectIsInRange os → AllByRecursion ObjectIsWritable os → AllByRecursion IsWritten (flat_map object_rows os)
objects_written [] h w = tt
objects_written (o ∷ os) h w =
    all_append IsWritten (object_rows o) (flat_map object_rows os)
    (all_append IsWritten (body_rows o.body) (attached_rows o.attrs) (body_written o.body h.0.body w.0) (attached_written o.attrs (recursion_from_All IsText o.attrs h.0.attrs)))
    (objects_written os h.1 w.1)

-- their lines
rows_spelled : (rows : List Row) → AllByRecursion IsWritten rows → SpellRows rows (flat_map row_lines rows)
rows_spelled rows h = rows_again rows (each rows h)
  where
    each : (rows : List Row) → AllByRecursion IsWritten rows → AllByRecursion (λ row. (line : List ℕ) × (row_lines row ≡ line ∷ following row) × IsRow row line (following row)) rows
    each [] h = tt
    each (row ∷ rows) h = ((h.0.line, h.0.lines_are, h.0.spelled), each rows h.1)

rows_cut : (rows : List Row) → AllByRecursion IsWritten rows → AllByRecursion IsCutLine (flat_map row_lines rows)
rows_cut [] h = tt
rows_cut (row ∷ rows) h = all_append IsCutLine (row_lines row) (flat_map row_lines rows) h.0.cut (rows_cut rows h.1)

-- the symbols are short enough
body_few : (b : Body) → BodyIsWritable b → BodyIsFew b
body_few (bodies.Shape s) w = tt
body_few (bodies.Component c) w = symbol_few c.embedded w
  where
    symbol_few : (e : Option (List PartData)) → SymbolIsWritable c.basename e → SymbolIsFew e
    symbol_few None w = tt
    symbol_few (Some parts) w = w.few

few : (os : List ObjectData) → AllByRecursion ObjectIsWritable os → AllByRecursion IsFew os
few [] w = tt
few (o ∷ os) w = (body_few o.body w.0, few os w.1)

-- the version line
abbrev date_word : HeadData → List ℕ
date_word h = replicate (8 - length (decimal h.date)) 48 ++ decimal h.date

abbrev head_words : HeadData → List (List ℕ)
head_words h = codes "v" ∷ date_word h ∷ decimal h.format ∷ []

format_small : (n : ℕ) → (n ≡ 1) ⊎ (n ≡ 2) → n < 1000000000
format_small n (inl e) = omega (arith, e)
format_small n (inr e) = omega (arith, e)

head_graphic : (h : HeadData) → IsHead h → AllByRecursion IsGraphic (head_words h)
head_graphic h is = (record { some = omega arith; above = (omega arith, tt) }, (zeros_graphic (8 - length (decimal h.date)) (decimal h.date) (decimal_graphic h.date (let d = is.date in omega (arith, d))), (decimal_graphic h.format (format_small h.format is.format), tt)))

format_known : (n : ℕ) → (n ≡ 1) ⊎ (n ≡ 2) → ((decimal n ≡ codes "1") × (n ≡ 1)) ⊎ ((decimal n ≡ codes "2") × (n ≡ 2))
format_known n (inl e) = inl (ap decimal e ∙ decimal_digit 1 (omega arith), e)
format_known n (inr e) = inr (ap decimal e ∙ decimal_digit 2 (omega arith), e)

version_written : (h : HeadData) → IsHead h → IsVersionLine h (head_line h)
version_written h is =
    let d = date_again h.date is.date in
    record { date = date_word h; format = decimal h.format; line_is = words_again (head_words h) (head_graphic h is); eight = d.eight; digits = d.digits; value = d.value; known = format_known h.format is.format }

-- the canonical text of a writable sheet spells it
pub sheet_again : (s : SheetData) → WritableSheet s → Spells SpellSheet (sheet_text s) s
sheet_again s w =
    let all = flat_map object_rows s.objects in
    let written = objects_written s.objects (recursion_from_All ObjectIsInRange s.objects w.in_range.objects.each) (recursion_from_All ObjectIsWritable s.objects w.each) in
    let cut : AllByRecursion IsCutLine (head_line s.head ∷ flat_map row_lines all) = (spaced_cut (head_words s.head) (head_graphic s.head w.in_range.head), rows_cut all written) in
    let same = lines_again (head_line s.head ∷ flat_map row_lines all) cut in
    let spelled : SpellSheet s (head_line s.head ∷ flat_map row_lines all) = (all, record { first = head_line s.head; rest = flat_map row_lines all; lines_are = refl; version = version_written s.head w.in_range.head; spelled = rows_spelled all written }, objects_canonical 100000 s.objects w.few (few s.objects (recursion_from_All ObjectIsWritable s.objects w.each))) in
    record { short = w.size; lines = subst (λ (ls : List (List ℕ)). SpellSheet s ls) (sym same) spelled }

-- the same of a symbol
pub symbol_again : (s : SymbolData) → WritableSymbol s → Spells SpellSymbol (symbol_text s) s
symbol_again s w =
    let all = flat_map part_rows s.parts in
    let written = parts_written s.parts (recursion_from_All PartIsInRange s.parts w.in_range.parts.each) (recursion_from_All PartIsWritable s.parts w.each) in
    let cut : AllByRecursion IsCutLine (head_line s.head ∷ flat_map row_lines all) = (spaced_cut (head_words s.head) (head_graphic s.head w.in_range.head), rows_cut all written) in
    let same = lines_again (head_line s.head ∷ flat_map row_lines all) cut in
    let spelled : SpellSymbol s (head_line s.head ∷ flat_map row_lines all) = (all, record { first = head_line s.head; rest = flat_map row_lines all; lines_are = refl; version = version_written s.head w.in_range.head; spelled = rows_spelled all written }, parts_canonical s.parts w.few) in
    record { short = w.size; lines = subst (λ (ls : List (List ℕ)). SpellSymbol s ls) (sym same) spelled }

-- and of an object
pub object_again : (o : ObjectData) → WritableObject o → Spells SpellObject (object_text o) o
object_again o w =
    let all = object_rows o in
    let written = all_append IsWritten (body_rows o.body) (attached_rows o.attrs) (body_written o.body w.in_range.body w.each) (attached_written o.attrs (recursion_from_All IsText o.attrs w.in_range.attrs)) in
    let same = lines_again (flat_map row_lines all) (rows_cut all written) in
    let rows = subst (SpellObjects 1 (o ∷ [])) (append-nil all) (objects_canonical 1 (o ∷ []) (omega arith) (few (o ∷ []) (w.each, tt))) in
    let spelled : SpellObject o (flat_map row_lines all) = (all, rows_spelled all written, rows) in
    record { short = w.size; lines = subst (λ (ls : List (List ℕ)). SpellObject o ls) (sym same) spelled }
