-- The row of a shape is its letter, its columns and what follows.
use Rattle.std.proofs.Common.{◌≡◌, ℕ, List, [], ◌∷◌, ◌++◌, length, map, refl, sym, ap, ◌∙◌, append_assoc}
use Rattle.std.specs.List.{flat_map}
use Rattle.std.proofs.lemmas.Grind.{flat_map-append}
use Rattle.std.proofs.lemmas.List.{append-nil}
use Rattle.geda_defs.specs.Lines.{ended, spaced}
use Rattle.geda_model.specs.Shapes.{ShapeIsInRange}
use Rattle.geda_model.specs.declared.shape.Shape.{Shape}
use Rattle.geda_model.specs.declared.shape.Shape.TheVariants.{Straight, Picture, Rect, Circle, Arc, Text, Net, Bus, Pin, Path}
use Rattle.geda_grammar.specs.Canonical.{field_text, following}
use Rattle.geda_grammar.specs.Classes.{Field}
use Rattle.geda_grammar.specs.Letters.{byte_of}
use Rattle.geda_grammar.specs.Rows.{letter_of_shape, shape_fields}
use Rattle.geda_grammar.specs.declared.row.Row.TheVariants.{Drawn}
use Rattle.geda_write.specs.steps.Columns.{columns_text, place_fields, extent_fields, color_fields, style_fields, own_fields, following_text}
use Rattle.geda_write.specs.steps.Texts.{fields_text, row_text}
use Rattle.geda_write.proofs.Contents.{length_lines, lines_ended, picture_ended}

-- its fields are those of the columns
abbrev columns_of : Shape → List Field
columns_of s = place_fields s ++ (extent_fields s ++ (color_fields s ++ (style_fields s ++ own_fields s)))

shape_columns : (s : Shape) → shape_fields s (length (following (Drawn s))) ≡ columns_of s
shape_columns (Straight x1 y1 x2 y2 color stroke) = refl
shape_columns (Picture x y width height angle mirrored file embedded) = refl
shape_columns (Rect x y width height color stroke fill) = refl
shape_columns (Circle x y radius color stroke fill) = refl
shape_columns (Arc x y radius start sweep color stroke) = refl
shape_columns (Text t) = ap (shape_fields (Text t)) (length_lines t.content)
shape_columns (Net x1 y1 x2 y2 color) = refl
shape_columns (Bus x1 y1 x2 y2 color ripper) = refl
shape_columns (Pin x1 y1 x2 y2 color bus whichend) = refl
shape_columns (Path color stroke fill content) = ap (shape_fields (Path color stroke fill content)) (length_lines content)

-- the lines behind its own
following_ended : (s : Shape) → ShapeIsInRange s → flat_map ended (following (Drawn s)) ≡ following_text s
following_ended (Picture x y width height angle mirrored file embedded) h = picture_ended file embedded h.5
following_ended (Text t) h = lines_ended t.content
following_ended (Path color stroke fill content) h = lines_ended content
following_ended s h = refl

-- each field stands behind a space
spaced_fields : (word : List ℕ) (fields : List Field) → spaced (word ∷ map field_text fields) ≡ word ++ fields_text fields
spaced_fields word [] = sym (append-nil word)
spaced_fields word (field ∷ fields) = ap (λ (bs : List ℕ). word ++ 32 ∷ bs) (spaced_fields (field_text field) fields)

-- a text of fields, cut
fields_cut : (front back : List Field) (bytes rest : List ℕ) → fields_text back ++ bytes ≡ rest → fields_text (front ++ back) ++ bytes ≡ fields_text front ++ rest
fields_cut front back bytes rest h = ap (λ (bs : List ℕ). bs ++ bytes) (flat_map-append (λ f. 32 ∷ field_text f) front back) ∙ append_assoc (fields_text front) (fields_text back) bytes ∙ ap (λ (bs : List ℕ). fields_text front ++ bs) h

columns_cut : (a b c d e : List Field) (bytes : List ℕ) → fields_text (a ++ (b ++ (c ++ (d ++ e)))) ++ bytes ≡ fields_text a ++ (fields_text b ++ (fields_text c ++ (fields_text d ++ (fields_text e ++ bytes))))
columns_cut a b c d e bytes = fields_cut a (b ++ (c ++ (d ++ e))) bytes _ (fields_cut b (c ++ (d ++ e)) bytes _ (fields_cut c (d ++ e) bytes _ (fields_cut d e bytes _ refl)))

columns_apart : (a b c d bytes : List ℕ) → a ++ (b ++ (c ++ (d ++ bytes))) ≡ (a ++ (b ++ (c ++ d))) ++ bytes
columns_apart a b c d bytes = sym (append_assoc a (b ++ (c ++ d)) bytes ∙ ap (λ (bs : List ℕ). a ++ bs) (append_assoc b (c ++ d) bytes ∙ ap (λ (bs : List ℕ). b ++ bs) (append_assoc c d bytes)))

pub shape_row : (s : Shape) → ShapeIsInRange s → row_text (Drawn s) ≡ byte_of (letter_of_shape s) ∷ (fields_text (place_fields s) ++ (columns_text s ++ (10 ∷ following_text s)))
shape_row s h =
    let letter = byte_of (letter_of_shape s) in
    let line = spaced_fields (letter ∷ []) (shape_fields s (length (following (Drawn s)))) ∙ ap (λ (fs : List Field). letter ∷ fields_text fs) (shape_columns s) in
    let behind = 10 ∷ following_text s in
    ap (λ (bs : List ℕ). ended bs ++ flat_map ended (following (Drawn s))) line
    ∙ ap (λ (bs : List ℕ). ended (letter ∷ fields_text (columns_of s)) ++ bs) (following_ended s h)
    ∙ append_assoc (letter ∷ fields_text (columns_of s)) (10 ∷ []) (following_text s)
    ∙ ap (λ (bs : List ℕ). letter ∷ bs) (columns_cut (place_fields s) (extent_fields s) (color_fields s) (style_fields s) (own_fields s) behind)
    ∙ ap (λ (bs : List ℕ). letter ∷ (fields_text (place_fields s) ++ bs)) (columns_apart (fields_text (extent_fields s)) (fields_text (color_fields s)) (fields_text (style_fields s)) (fields_text (own_fields s)) behind)
