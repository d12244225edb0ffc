-- Steps of the code; no public clause cites them.
-- What a line says by itself, and what the lines that follow it add (own).
use Rattle.std.specs.Prelude.{ℕ, ℤ, pos, negsuc, Bool, ◌==◌, if◌then◌else◌, List, [], ◌∷◌, drop, Option, Some, None}
use Rattle.geda_model.specs.Data.{StrokeData, FillData}
use Rattle.geda_model.specs.declared.shape.Shape.{Shape}
use Rattle.geda_model.specs.declared.shape.Shape.TheVariants as shapes
use Rattle.geda_grammar.specs.declared.letter.Letter.{Letter}
use Rattle.geda_grammar.specs.Letters.{letter_of}
use Rattle.geda_grammar.specs.declared.letter.Letter.TheVariants.{Straight, Picture, Rect, Circle, Arc, Text, Net, Bus, Pin, Path, Component, OpenBlock, CloseBlock, OpenSymbol, CloseSymbol}
use Rattle.geda_grammar.specs.declared.field_class.Class.{Class}
use Rattle.geda_grammar.specs.Classes.{Field, Number, Word, classes_of, field_in}
use Rattle.geda_grammar.specs.declared.row.Row.TheVariants as rows
use Rattle.geda_grammar.specs.Components.{ComponentLineData}
use Rattle.geda_grammar.specs.Rows.{is_embedding}
use Rattle.geda_grammar.specs.steps.Following.{Pending, TextLines, PathLines, PictureName}
use Rattle.geda_grammar.specs.steps.Reading.{SheetLine, Blank, Complete, Begins, Faulty}
use Rattle.geda_text.specs.Lines.{fields_of}

-- a number that is not below 0, and one that is a flag
abbrev pub natural_in : ℤ → ℕ
natural_in (pos n) = n
natural_in (negsuc n) = 0

abbrev pub flag_in : ℤ → Bool
flag_in z = natural_in z == 1

-- strokes and fillings
abbrev pub stroke : ℤ → ℤ → ℤ → ℤ → ℤ → StrokeData
stroke width cap dash dash_length dash_space = record {
  width = width;
  cap = cap;
  dash = dash;
  dash_length = dash_length;
  dash_space = dash_space;
}

abbrev pub fill : ℤ → ℤ → ℤ → ℤ → ℤ → ℤ → FillData
fill sort width angle1 pitch1 angle2 pitch2 = record {
  sort = sort;
  width = width;
  angle1 = angle1;
  pitch1 = pitch1;
  angle2 = angle2;
  pitch2 = pitch2;
}

-- a row of a shape
abbrev pub drawn_line : Shape → SheetLine Pending
drawn_line shape = Complete (rows.Drawn shape)

abbrev pub straight_line : List Field → SheetLine Pending
straight_line (Number x1 ∷ Number y1 ∷ Number x2 ∷ Number y2 ∷ Number color ∷ Number width ∷
    Number cap ∷ Number dash ∷ Number long ∷ Number space ∷ []) =
    drawn_line (shapes.Straight x1 y1 x2 y2 color (stroke width cap dash long space))
straight_line fields = Faulty

abbrev pub picture_line : List Field → SheetLine Pending
picture_line (Number x ∷ Number y ∷ Number width ∷ Number height ∷ Number angle ∷ Number mirrored ∷
    Number embedded ∷ []) =
    Begins (PictureName (record {
      x = x;
      y = y;
      width = width;
      height = height;
      angle = natural_in angle;
      mirrored = flag_in mirrored;
    }) (flag_in embedded))
picture_line fields = Faulty

abbrev pub rect_line : List Field → SheetLine Pending
rect_line (Number x ∷ Number y ∷ Number wide ∷ Number high ∷ Number color ∷ Number width ∷
    Number cap ∷ Number dash ∷ Number long ∷ Number space ∷ Number sort ∷ Number thick ∷
    Number angle1 ∷ Number pitch1 ∷ Number angle2 ∷ Number pitch2 ∷ []) =
    drawn_line (shapes.Rect x y wide high color (stroke width cap dash long space)
    (fill sort thick angle1 pitch1 angle2 pitch2))
rect_line fields = Faulty

abbrev pub circle_line : List Field → SheetLine Pending
circle_line (Number x ∷ Number y ∷ Number radius ∷ Number color ∷ Number width ∷ Number cap ∷
    Number dash ∷ Number long ∷ Number space ∷ Number sort ∷ Number thick ∷ Number angle1 ∷
    Number pitch1 ∷ Number angle2 ∷ Number pitch2 ∷ []) =
    drawn_line (shapes.Circle x y radius color (stroke width cap dash long space)
    (fill sort thick angle1 pitch1 angle2 pitch2))
circle_line fields = Faulty

abbrev pub arc_line : List Field → SheetLine Pending
arc_line (Number x ∷ Number y ∷ Number radius ∷ Number start ∷ Number sweep ∷ Number color ∷
    Number width ∷ Number cap ∷ Number dash ∷ Number long ∷ Number space ∷ []) =
    drawn_line (shapes.Arc x y radius start sweep color (stroke width cap dash long space))
arc_line fields = Faulty

abbrev pub text_line : List Field → SheetLine Pending
text_line (Number x ∷ Number y ∷ Number color ∷ Number size ∷ Number visible ∷ Number show ∷
    Number angle ∷ Number align ∷ Number lines ∷ []) =
    Begins (TextLines (record {
      x = x;
      y = y;
      color = color;
      size = size;
      visible = natural_in visible;
      show = natural_in show;
      angle = natural_in angle;
      align = natural_in align;
      content = [];
    }) (natural_in lines))
text_line fields = Faulty

abbrev pub net_line : List Field → SheetLine Pending
net_line (Number x1 ∷ Number y1 ∷ Number x2 ∷ Number y2 ∷ Number color ∷ []) =
    drawn_line (shapes.Net x1 y1 x2 y2 color)
net_line fields = Faulty

abbrev pub bus_line : List Field → SheetLine Pending
bus_line (Number x1 ∷ Number y1 ∷ Number x2 ∷ Number y2 ∷ Number color ∷ Number ripper ∷ []) =
    drawn_line (shapes.Bus x1 y1 x2 y2 color ripper)
bus_line fields = Faulty

abbrev pub pin_line : List Field → SheetLine Pending
pin_line (Number x1 ∷ Number y1 ∷ Number x2 ∷ Number y2 ∷ Number color ∷ Number bus ∷ Number end ∷
    []) =
    drawn_line (shapes.Pin x1 y1 x2 y2 color (flag_in bus) (natural_in end))
pin_line fields = Faulty

abbrev pub path_line : List Field → SheetLine Pending
path_line (Number color ∷ Number width ∷ Number cap ∷ Number dash ∷ Number long ∷ Number space ∷
    Number sort ∷ Number thick ∷ Number angle1 ∷ Number pitch1 ∷ Number angle2 ∷ Number pitch2 ∷
    Number lines ∷ []) =
    Begins (PathLines color (stroke width cap dash long space)
    (fill sort thick angle1 pitch1 angle2 pitch2) [] (natural_in lines))
path_line fields = Faulty

-- a component, by its basename
abbrev pub component_data : ℤ → ℤ → ℤ → ℤ → ℤ → List ℕ → ComponentLineData
component_data x y selectable angle mirror basename = record {
  x = x;
  y = y;
  selectable = flag_in selectable;
  angle = natural_in angle;
  mirror = flag_in mirror;
  basename = basename;
}

abbrev pub component_line : List Field → SheetLine Pending
component_line (Number x ∷ Number y ∷ Number selectable ∷ Number angle ∷ Number mirror ∷ Word name ∷
    []) =
    if is_embedding name
    then Complete (rows.Embedding (component_data x y selectable angle mirror (drop 8 name)))
    else Complete (rows.Library (component_data x y selectable angle mirror name))
component_line fields = Faulty

-- what the fields behind a letter say
abbrev pub letter_line : Letter → List Field → SheetLine Pending
letter_line Straight fields = straight_line fields
letter_line Picture fields = picture_line fields
letter_line Rect fields = rect_line fields
letter_line Circle fields = circle_line fields
letter_line Arc fields = arc_line fields
letter_line Text fields = text_line fields
letter_line Net fields = net_line fields
letter_line Bus fields = bus_line fields
letter_line Pin fields = pin_line fields
letter_line Path fields = path_line fields
letter_line Component fields = component_line fields
letter_line OpenBlock fields = Complete rows.OpenBlock
letter_line CloseBlock fields = Complete rows.CloseBlock
letter_line OpenSymbol fields = Complete rows.OpenSymbol
letter_line CloseSymbol fields = Complete rows.CloseSymbol

-- a field and those behind it
abbrev pub and_more : Option Field → Option (List Field) → Option (List Field)
and_more None more = None
and_more (Some field) None = None
and_more (Some field) (Some fields) = Some (field ∷ fields)

-- what all fields say, if there are as many as classes
abbrev pub read_fields : List Class → List (List ℕ) → Option (List Field)
read_fields [] [] = Some []
read_fields (class ∷ classes) (bytes ∷ more) =
    and_more (field_in class bytes) (read_fields classes more)
read_fields classes words = None

-- what a line says
abbrev pub line_of_fields : Letter → Option (List Field) → SheetLine Pending
line_of_fields letter None = Faulty
line_of_fields letter (Some fields) = letter_line letter fields

abbrev pub line_of_letter : Option Letter → List (List ℕ) → SheetLine Pending
line_of_letter None words = Faulty
line_of_letter (Some letter) words = line_of_fields letter (read_fields (classes_of letter) words)

abbrev pub line_of_words : List (List ℕ) → SheetLine Pending
line_of_words [] = Blank
line_of_words (first ∷ words) = line_of_letter (letter_of first) words

abbrev pub sheet_line : List ℕ → SheetLine Pending
sheet_line line = line_of_words (fields_of line)
