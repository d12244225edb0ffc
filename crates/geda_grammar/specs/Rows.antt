-- The rows of a file: a row is the line of an object with the lines that follow it, or a bracket
-- (gEDA File Format Document).
use Rattle.std.specs.Prelude.{◌≡◌, ◌≢◌, ℕ, pos, Bool, true, false, List, [], ◌∷◌, ◌++◌, length, take, Option, Some, None, is_some, codes, if◌then◌else◌}
use Rattle.std.specs.List.{AllByRecursion, flat_map, join_with_byte}
use Rattle.std.specs.Str.{is_utf8, bytes_eq}
use Rattle.geda_defs.specs.Lines.{ended}
use Rattle.geda_model.specs.Data.{StrokeData, FillData}
use Rattle.geda_model.specs.Shapes.{ComponentData}
use Rattle.geda_model.specs.declared.shape.Shape.{Shape}
use Rattle.geda_model.specs.declared.shape.Shape.TheVariants.{Straight, Picture, Rect, Circle, Arc, Text, Net, Bus, Pin, Path}
use Rattle.geda_grammar.specs.declared.letter.Letter.TheVariants as letters
use Rattle.geda_grammar.specs.declared.letter.Letter.{Letter}
use Rattle.geda_grammar.specs.Letters.{byte_of}
use Rattle.geda_grammar.specs.Components.{ComponentLineData}
use Rattle.geda_grammar.specs.Classes.{Field, Number, Word, classes_of, AreFields}
use Rattle.geda_text.specs.Lines.{fields_of}
use Rattle.geda_grammar.specs.declared.row.Row.{Row}
use Rattle.geda_grammar.specs.declared.row.Row.TheVariants.{Drawn, Library, Embedding, OpenBlock, CloseBlock, OpenSymbol, CloseSymbol}

-- that part of a component
abbrev pub component_line_of : ComponentData → ComponentLineData
component_line_of c = record {
  x = c.x;
  y = c.y;
  selectable = c.selectable;
  angle = c.angle;
  mirror = c.mirror;
  basename = c.basename;
}

-- its letter
abbrev pub letter_of_shape : Shape → Letter
letter_of_shape (Straight x1 y1 x2 y2 color stroke) = letters.Straight
letter_of_shape (Picture x y width height angle mirrored file embedded) = letters.Picture
letter_of_shape (Rect x y width height color stroke fill) = letters.Rect
letter_of_shape (Circle x y radius color stroke fill) = letters.Circle
letter_of_shape (Arc x y radius start sweep color stroke) = letters.Arc
letter_of_shape (Text t) = letters.Text
letter_of_shape (Net x1 y1 x2 y2 color) = letters.Net
letter_of_shape (Bus x1 y1 x2 y2 color ripper) = letters.Bus
letter_of_shape (Pin x1 y1 x2 y2 color bus whichend) = letters.Pin
letter_of_shape (Path color stroke fill content) = letters.Path

abbrev pub letter_of_row : Row → Letter
letter_of_row (Drawn s) = letter_of_shape s
letter_of_row (Library p) = letters.Component
letter_of_row (Embedding p) = letters.Component
letter_of_row OpenBlock = letters.OpenBlock
letter_of_row CloseBlock = letters.CloseBlock
letter_of_row OpenSymbol = letters.OpenSymbol
letter_of_row CloseSymbol = letters.CloseSymbol

-- a number that is not below 0; a flag, as 0 or 1
abbrev pub natural : ℕ → Field
natural n = Number (pos n)

abbrev pub bit : Bool → Field
bit b = natural (if b then 1 else 0)

-- the fields of a stroke: width, cap, dash, length of dashes, space between them
abbrev pub stroke_fields : StrokeData → List Field
stroke_fields s =
    Number s.width ∷ Number s.cap ∷ Number s.dash ∷ Number s.dash_length ∷ Number s.dash_space ∷ []

-- the fields of a filling: sort, width, two angles with their pitches
abbrev pub fill_fields : FillData → List Field
fill_fields f =
    Number f.sort ∷ Number f.width ∷ Number f.angle1 ∷ Number f.pitch1 ∷ Number f.angle2 ∷
    Number f.pitch2 ∷ []

-- the fields of a shape behind its letter, where so many lines follow
abbrev pub shape_fields : Shape → ℕ → List Field
shape_fields (Straight x1 y1 x2 y2 color stroke) lines =
    Number x1 ∷ Number y1 ∷ Number x2 ∷ Number y2 ∷ Number color ∷ stroke_fields stroke
shape_fields (Picture x y width height angle mirrored file embedded) lines =
    Number x ∷ Number y ∷ Number width ∷ Number height ∷ natural angle ∷ bit mirrored ∷
    bit (is_some embedded) ∷ []
shape_fields (Rect x y width height color stroke fill) lines =
    Number x ∷ Number y ∷ Number width ∷ Number height ∷ Number color ∷
    (stroke_fields stroke ++ fill_fields fill)
shape_fields (Circle x y radius color stroke fill) lines =
    Number x ∷ Number y ∷ Number radius ∷ Number color ∷ (stroke_fields stroke ++ fill_fields fill)
shape_fields (Arc x y radius start sweep color stroke) lines =
    Number x ∷ Number y ∷ Number radius ∷ Number start ∷ Number sweep ∷ Number color ∷
    stroke_fields stroke
shape_fields (Text t) lines =
    Number t.x ∷ Number t.y ∷ Number t.color ∷ Number t.size ∷ natural t.visible ∷ natural t.show ∷
    natural t.angle ∷ natural t.align ∷ natural lines ∷ []
shape_fields (Net x1 y1 x2 y2 color) lines =
    Number x1 ∷ Number y1 ∷ Number x2 ∷ Number y2 ∷ Number color ∷ []
shape_fields (Bus x1 y1 x2 y2 color ripper) lines =
    Number x1 ∷ Number y1 ∷ Number x2 ∷ Number y2 ∷ Number color ∷ Number ripper ∷ []
shape_fields (Pin x1 y1 x2 y2 color bus whichend) lines =
    Number x1 ∷ Number y1 ∷ Number x2 ∷ Number y2 ∷ Number color ∷ bit bus ∷ natural whichend ∷ []
shape_fields (Path color stroke fill content) lines =
    Number color ∷ (stroke_fields stroke ++ fill_fields fill ++ natural lines ∷ [])

-- the fields of a component, by the word that names its symbol
abbrev pub component_fields : ComponentLineData → List ℕ → List Field
component_fields p name =
    Number p.x ∷ Number p.y ∷ bit p.selectable ∷ natural p.angle ∷ bit p.mirror ∷ Word name ∷ []

abbrev pub row_fields : Row → ℕ → List Field
row_fields (Drawn s) lines = shape_fields s lines
row_fields (Library p) lines = component_fields p p.basename
row_fields (Embedding p) lines = component_fields p (codes "EMBEDDED" ++ p.basename)
row_fields bracket lines = []

-- the lines of a picture: the name of its file and, where it is embedded, its data and a point
abbrev pub FollowPicture : List ℕ → Option (List ℕ) → List (List ℕ) → Type 0
FollowPicture file None lines = lines ≡ file ∷ []
FollowPicture file (Some bytes) lines =
    (data_lines : List (List ℕ)) × (lines ≡ file ∷ (data_lines ++ codes "." ∷ [])) ×
    AllByRecursion (λ l. l ≢ codes ".") data_lines × (bytes ≡ flat_map ended data_lines)

-- the lines that follow the line of a shape
abbrev pub FollowShape : Shape → List (List ℕ) → Type 0
FollowShape (Straight x1 y1 x2 y2 color stroke) lines = lines ≡ []
FollowShape (Picture x y width height angle mirrored file embedded) lines =
    FollowPicture file embedded lines
FollowShape (Rect x y width height color stroke fill) lines = lines ≡ []
FollowShape (Circle x y radius color stroke fill) lines = lines ≡ []
FollowShape (Arc x y radius start sweep color stroke) lines = lines ≡ []
FollowShape (Text t) lines = t.content ≡ join_with_byte 10 lines
FollowShape (Net x1 y1 x2 y2 color) lines = lines ≡ []
FollowShape (Bus x1 y1 x2 y2 color ripper) lines = lines ≡ []
FollowShape (Pin x1 y1 x2 y2 color bus whichend) lines = lines ≡ []
FollowShape (Path color stroke fill content) lines = content ≡ join_with_byte 10 lines

-- a basename that would make the component embedded
abbrev pub is_embedding : List ℕ → Bool
is_embedding name = bytes_eq (take 8 name) (codes "EMBEDDED")

-- the lines that follow a row: none but for shapes; a library's basename does not begin with
-- `EMBEDDED`
abbrev pub FollowRow : Row → List (List ℕ) → Type 0
FollowRow (Drawn s) lines = FollowShape s lines
FollowRow (Library p) lines = (is_embedding p.basename ≡ false) × (lines ≡ [])
FollowRow row lines = lines ≡ []

-- a line and the lines that follow it spell a row
pub record IsRow (row : Row) (line : List ℕ) (following : List (List ℕ)) : Type 0 where
  pub words : List (List ℕ)
  pub line_is : fields_of line ≡ (byte_of (letter_of_row row) ∷ []) ∷ words
  pub fields : AreFields (classes_of (letter_of_row row)) words (row_fields row (length following))
  pub follow : FollowRow row following
  pub utf8 : AllByRecursion (λ l. is_utf8 l ≡ true) following
