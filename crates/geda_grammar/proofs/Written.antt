-- The canonical lines of a row spell that row.
use Rattle.std.proofs.Common.{◌≡◌, ℕ, ◌<◌, ◌≤◌, true, false, eqb, List, [], ◌∷◌, ◌++◌, length, map, Some, None, refl, sym, ap, subst, ◌∙◌, arith, codes}
use Rattle.std.specs.Prelude.{◌&&◌, ◌≢◌, nat_le}
use Rattle.std.specs.List.{slice_split, list_all, AllByRecursion}
use Rattle.std.specs.Str.{is_utf8}
use Rattle.std.proofs.lemmas.List.Splits.{length-slice_split, join_with_byte-slice_split, slice_split_none}
use Rattle.std.proofs.lemmas.Bool.Decides.{nat_tests}
use Rattle.geda_defs.specs.Lines.{spaced, is_line_feed}
use Rattle.geda_model.specs.Names.{is_word, is_word_byte, IsWord, IsWordByte, IsLineByte}
use Rattle.geda_model.specs.Ranges.{IsContent, has_cr_end}
use Rattle.geda_model.specs.Shapes.{ShapeIsInRange, ComponentData, IsComponent}
use Rattle.geda_grammar.specs.Writable.{ShapeIsWritable, IsLibraryName}
use Rattle.geda_grammar.specs.declared.letter.Letter.TheVariants as letters
use Rattle.geda_grammar.specs.declared.letter.Letter.{Letter}
use Rattle.geda_grammar.specs.Letters.{byte_of}
use Rattle.geda_grammar.specs.declared.field_class.Class.{Class}
use Rattle.geda_grammar.specs.declared.field_class.Class.TheVariants.{Within, UpTo, Lines, Angle, Basename}
use Rattle.geda_grammar.specs.Classes.{Field, Number, Word, classes_of}
use Rattle.geda_grammar.specs.declared.row.Row.TheVariants as rows
use Rattle.geda_grammar.specs.declared.row.Row.{Row}
use Rattle.geda_grammar.specs.declared.row.Row.TheVariants.{Drawn}
use Rattle.geda_grammar.specs.Rows.{IsRow, FollowRow, letter_of_row, component_line_of, row_fields}
use Rattle.geda_grammar.specs.Canonical.{field_text, following, row_lines}
use Rattle.std.proofs.lemmas.List.{length-append}
use Rattle.std.proofs.lemmas.Bool.{le-leb, and_parts}
use Rattle.std.proofs.lemmas.List.Elements.{All-from_recursion, recursion_from_All}
use Rattle.std.proofs.lemmas.Str.{IsUtf8-append, IsUtf8-from_is_utf8, is_utf8-from_IsUtf8}
use Rattle.geda_grammar.proofs.Ascii.{ascii}
use Rattle.geda_grammar.proofs.FileLaws.{all_append}
use Rattle.geda_grammar.proofs.PictureLines.{data_whole, data_no_points, all_kept}
use Rattle.geda_model.specs.declared.shape.Shape.{Shape}
use Rattle.geda_model.specs.declared.shape.Shape.TheVariants.{Straight, Picture, Rect, Circle, Arc, Text, Net, Bus, Pin, Path}
use Rattle.geda_text.specs.Lines.{without_empty_end, unless_last_cr, IsCutLine}
use Rattle.geda_grammar.proofs.FollowLaws.{AreUtf8}
use Rattle.geda_text.proofs.WordsAgain.{IsGraphic, words_again, number_graphic}
use Rattle.geda_grammar.proofs.Writing.{Good, AllGood, fields_again, no_feed}
use Rattle.geda_grammar.proofs.Goodness.{shape_good, is_coordinate, is_bit, is_angle}
use Rattle.geda_grammar.proofs.Pieces.{pieces_utf8, pieces_cut}

-- the bytes of a word stand above the space
word_above : (bs : List ℕ) → list_all is_word_byte bs ≡ true → AllByRecursion (λ b. 32 < b) bs
word_above [] h = tt
word_above (b ∷ bs) h =
    let both = and_parts (is_word_byte b) (list_all is_word_byte bs) h in
    let one = both.0 in
    (grind (arith, nat_tests, one), word_above bs both.1)

field_graphic : (c : Class) (f : Field) → Good c f → IsGraphic (field_text f)
field_graphic (Within n) (Number z) h = number_graphic z h.1
field_graphic (UpTo n) (Number z) h = number_graphic z h.1
field_graphic Lines (Number z) h = number_graphic z h.1
field_graphic Angle (Number z) h = number_graphic z h.1
field_graphic Basename (Word bytes) h =
    let both = and_parts (is_utf8 bytes) (nat_le (length bytes) 200 && list_all is_word_byte bytes) h.0 in
    record { some = h.1; above = word_above bytes (and_parts (nat_le (length bytes) 200) (list_all is_word_byte bytes) both.1).1 }
field_graphic c f h = absurd h

fields_graphic : (cs : List Class) (fs : List Field) → AllGood cs fs → AllByRecursion IsGraphic (map field_text fs)
fields_graphic [] [] h = tt
fields_graphic (c ∷ cs) (f ∷ fs) h = (field_graphic c f h.0, fields_graphic cs fs h.1)
fields_graphic cs fs h = absurd h

-- a letter is a word too
letter_graphic : (l : Letter) → IsGraphic (byte_of l ∷ [])
letter_graphic l = record { some = omega arith; above = (above l, tt) }
  where
    above : (l : Letter) → 32 < byte_of l
    above letters.Straight = omega arith
    above letters.Picture = omega arith
    above letters.Rect = omega arith
    above letters.Circle = omega arith
    above letters.Arc = omega arith
    above letters.Text = omega arith
    above letters.Net = omega arith
    above letters.Bus = omega arith
    above letters.Pin = omega arith
    above letters.Path = omega arith
    above letters.Component = omega arith
    above letters.OpenBlock = omega arith
    above letters.CloseBlock = omega arith
    above letters.OpenSymbol = omega arith
    above letters.CloseSymbol = omega arith

-- bytes from the space on stand in one line
clean : (bs : List ℕ) → AllByRecursion (λ b. 31 < b) bs → IsCutLine bs
clean [] h = record { one = tt; no_cr = refl }
clean (b ∷ bs) h =
    let rest = clean bs h.1 in
    let other : eqb b 13 ≡ false = (let k = h.0 in grind (arith, nat_tests, k)) in
    record { one = ((let k = h.0 in omega (arith, k)), rest.one); no_cr = ap (unless_last_cr b) rest.no_cr ∙ last bs other }
  where
    last : (cs : List ℕ) → eqb b 13 ≡ false → unless_last_cr b cs ≡ b ∷ cs
    last [] e = rw e refl
    last (c ∷ cs) e = refl

above_space : (bs : List ℕ) → AllByRecursion (λ b. 32 < b) bs → AllByRecursion (λ b. 31 < b) bs
above_space [] h = tt
above_space (b ∷ bs) h = ((let k = h.0 in omega (arith, k)), above_space bs h.1)

both_above : (xs ys : List ℕ) → AllByRecursion (λ b. 31 < b) xs → AllByRecursion (λ b. 31 < b) ys → AllByRecursion (λ b. 31 < b) (xs ++ ys)
both_above [] ys p q = q
both_above (x ∷ xs) ys p q = (p.0, both_above xs ys p.1 q)

spaced_above : (ws : List (List ℕ)) → AllByRecursion IsGraphic ws → AllByRecursion (λ b. 31 < b) (spaced ws)
spaced_above [] h = tt
spaced_above (w ∷ []) h = above_space w h.0.above
spaced_above (w ∷ v ∷ ws) h = both_above w (32 ∷ spaced (v ∷ ws)) (above_space w h.0.above) (omega arith, spaced_above (v ∷ ws) h.1)

-- words with one space between them are a line
pub spaced_cut : (ws : List (List ℕ)) → AllByRecursion IsGraphic ws → IsCutLine (spaced ws)
spaced_cut ws h = clean (spaced ws) (spaced_above ws h)

-- a row that is written so that it is read
pub record IsWritten (row : Row) : Type 0 where
  pub line : List ℕ
  pub lines_are : row_lines row ≡ line ∷ following row
  pub spelled : IsRow row line (following row)
  pub cut : AllByRecursion IsCutLine (row_lines row)

-- what fits is a row
pub row_written : (row : Row) → AllGood (classes_of (letter_of_row row)) (row_fields row (length (following row))) → FollowRow row (following row) → AreUtf8 (following row) → AllByRecursion IsCutLine (following row) → IsWritten row
row_written row good follow u cut =
    let words = map field_text (row_fields row (length (following row))) in
    let graphic = fields_graphic (classes_of (letter_of_row row)) (row_fields row (length (following row))) good in
    record {
      line = spaced ((byte_of (letter_of_row row) ∷ []) ∷ words);
      lines_are = refl;
      spelled = record {
        words = words;
        line_is = words_again ((byte_of (letter_of_row row) ∷ []) ∷ words) (letter_graphic (letter_of_row row), graphic);
        fields = fields_again (classes_of (letter_of_row row)) (row_fields row (length (following row))) good;
        follow = follow;
        utf8 = u;
      };
      cut = (spaced_cut ((byte_of (letter_of_row row) ∷ []) ∷ words) (letter_graphic (letter_of_row row), graphic), cut);
    }

-- a content has 1 to 10,000 lines
count_fits : (content : List ℕ) → IsContent content → (0 < length (slice_split is_line_feed content)) × (length (slice_split is_line_feed content) ≤ 10000)
count_fits content h =
    let count = length-slice_split is_line_feed content in
    let few = h.lines in
    (omega (arith, count), omega (arith, count, few))

-- a line without LF, and without CR at its end, is one of a file
line_cut : (bs : List ℕ) → AllByRecursion (λ b. b ≢ 10) bs → has_cr_end bs ≡ false → IsCutLine bs
line_cut bs one h =
    let whole = slice_split_none is_line_feed bs (All-from_recursion (λ b. is_line_feed b ≡ false) bs (no_feed bs one)) in
    (subst (AllByRecursion IsCutLine) whole (pieces_cut bs h)).0

-- a shape is written so that it is read
pub shape_written : (s : Shape) → ShapeIsInRange s → ShapeIsWritable s → IsWritten (Drawn s)
shape_written (Straight x1 y1 x2 y2 color stroke) h w = row_written _ (shape_good (Straight x1 y1 x2 y2 color stroke) 0 h tt) refl tt tt
shape_written (Picture x y width height angle mirrored file None) h w = row_written _ (shape_good (Picture x y width height angle mirrored file None) 1 h tt) refl (h.4.text, tt) (line_cut file (recursion_from_All IsLineByte file h.4.line_bytes) w.0, tt)
shape_written (Picture x y width height angle mirrored file (Some bytes)) h w =
    let pieces = slice_split is_line_feed bytes in
    let lines = without_empty_end pieces in
    let good = shape_good (Picture x y width height angle mirrored file (Some bytes)) (length (file ∷ (lines ++ codes "." ∷ []))) h tt in
    let utf8 = all_append (λ l. is_utf8 l ≡ true) lines (codes "." ∷ []) (all_kept (λ l. is_utf8 l ≡ true) pieces (pieces_utf8 bytes h.5.text)) (ascii (codes ".") refl, tt) in
    let cut = all_append IsCutLine lines (codes "." ∷ []) (all_kept IsCutLine pieces (pieces_cut bytes w.1)) (record { one = (omega arith, tt); no_cr = refl }, tt) in
    row_written _ good (lines, refl, data_no_points bytes h.5, sym (data_whole bytes h.5.last)) (h.4.text, utf8) (line_cut file (recursion_from_All IsLineByte file h.4.line_bytes) w.0, cut)
shape_written (Rect x y width height color stroke fill) h w = row_written _ (shape_good (Rect x y width height color stroke fill) 0 h tt) refl tt tt
shape_written (Circle x y radius color stroke fill) h w = row_written _ (shape_good (Circle x y radius color stroke fill) 0 h tt) refl tt tt
shape_written (Arc x y radius start sweep color stroke) h w = row_written _ (shape_good (Arc x y radius start sweep color stroke) 0 h tt) refl tt tt
shape_written (Text t) h w = row_written _ (shape_good (Text t) (length (slice_split is_line_feed t.content)) h (count_fits t.content h.content)) (sym (join_with_byte-slice_split 10 t.content)) (pieces_utf8 t.content h.content.text) (pieces_cut t.content h.content.no_cr)
shape_written (Net x1 y1 x2 y2 color) h w = row_written _ (shape_good (Net x1 y1 x2 y2 color) 0 h tt) refl tt tt
shape_written (Bus x1 y1 x2 y2 color ripper) h w = row_written _ (shape_good (Bus x1 y1 x2 y2 color ripper) 0 h tt) refl tt tt
shape_written (Pin x1 y1 x2 y2 color bus whichend) h w = row_written _ (shape_good (Pin x1 y1 x2 y2 color bus whichend) 0 h tt) refl tt tt
shape_written (Path color stroke fill content) h w = row_written _ (shape_good (Path color stroke fill content) (length (slice_split is_line_feed content)) h (count_fits content h.3)) (sym (join_with_byte-slice_split 10 content)) (pieces_utf8 content h.3.text) (pieces_cut content h.3.no_cr)

-- brackets
pub open_block_written : IsWritten rows.OpenBlock
open_block_written = row_written rows.OpenBlock tt refl tt tt

pub close_block_written : IsWritten rows.CloseBlock
close_block_written = row_written rows.CloseBlock tt refl tt tt

pub open_symbol_written : IsWritten rows.OpenSymbol
open_symbol_written = row_written rows.OpenSymbol tt refl tt tt

pub close_symbol_written : IsWritten rows.CloseSymbol
close_symbol_written = row_written rows.CloseSymbol tt refl tt tt

-- components
word_bytes : (bs : List ℕ) → AllByRecursion IsWordByte bs → list_all is_word_byte bs ≡ true
word_bytes [] h = refl
word_bytes (b ∷ bs) h =
    let one : is_word_byte b ≡ true = (let low = h.0.0 in let other = h.0.1 in grind (arith, nat_tests, low, other)) in
    rw (one, word_bytes bs h.1) refl

pub word_is : (bs : List ℕ) → IsWord bs → is_word bs ≡ true
word_is bs h = rw (h.text, le-leb (length bs) 200 h.short, word_bytes bs (recursion_from_All IsWordByte bs h.word_bytes)) refl

embedded_word : (bs : List ℕ) → IsWord bs → length bs ≤ 192 → is_word (codes "EMBEDDED" ++ bs) ≡ true
embedded_word bs h short =
    let text : is_utf8 (codes "EMBEDDED" ++ bs) ≡ true = is_utf8-from_IsUtf8 _ (IsUtf8-append (codes "EMBEDDED") bs (IsUtf8-from_is_utf8 _ (ascii (codes "EMBEDDED") refl)) (IsUtf8-from_is_utf8 bs h.text)) in
    let few : length (codes "EMBEDDED" ++ bs) ≤ 200 = omega (arith, length-append (codes "EMBEDDED") bs, short) in
    let all : list_all is_word_byte (codes "EMBEDDED" ++ bs) ≡ true = word_bytes bs (recursion_from_All IsWordByte bs h.word_bytes) in
    rw (text, le-leb (length (codes "EMBEDDED" ++ bs)) 200 few) all

pub library_written : (c : ComponentData) → IsComponent c → IsLibraryName c.basename → IsWritten (rows.Library (component_line_of c))
library_written c h w = row_written _ (is_coordinate c.x h.x, (is_coordinate c.y h.y, (is_bit c.selectable, (is_angle c.angle h.angle, (is_bit c.mirror, ((word_is c.basename h.basename, w.filled), tt)))))) (w.other, refl) tt tt

pub embedding_written : (c : ComponentData) → IsComponent c → length c.basename ≤ 192 → IsWritten (rows.Embedding (component_line_of c))
embedding_written c h w = row_written _ (is_coordinate c.x h.x, (is_coordinate c.y h.y, (is_bit c.selectable, (is_angle c.angle h.angle, (is_bit c.mirror, ((embedded_word c.basename h.basename w, omega arith), tt)))))) refl tt tt
