-- Steps of the code; no public clause cites them.
-- The fields of a shape's line, column by column, and what follows that line.
use Rattle.std.specs.Prelude.{ℕ, ◌+◌, List, [], ◌∷◌, ◌++◌, is_some}
use Rattle.geda_defs.specs.Lines.{ended}
use Rattle.geda_model.specs.Data.{TextData}
use Rattle.geda_model.specs.Ranges.{line_feeds}
use Rattle.geda_model.specs.declared.shape.Shape.{Shape}
use Rattle.geda_model.specs.declared.shape.Shape.TheVariants.{Straight, Picture, Rect, Circle, Arc, Text, Net, Bus, Pin, Path}
use Rattle.geda_grammar.specs.Classes.{Field, Number}
use Rattle.geda_grammar.specs.Rows.{bit, fill_fields, natural, stroke_fields}
use Rattle.geda_write.specs.steps.Texts.{data_text, fields_text}

-- all numbers of a text
abbrev pub text_fields : TextData → List Field
text_fields t =
    Number t.x ∷ Number t.y ∷ Number t.color ∷ Number t.size ∷ natural t.visible ∷ natural t.show
    ∷ natural t.angle ∷ natural t.align ∷ natural (line_feeds t.content + 1) ∷ []

-- the point at which it stands, or its two ends; all numbers of a net and of a text
abbrev pub place_fields : Shape → List Field
place_fields (Straight x1 y1 x2 y2 color stroke) =
    Number x1 ∷ Number y1 ∷ Number x2 ∷ Number y2 ∷ []
place_fields (Picture x y width height angle mirrored file embedded) = Number x ∷ Number y ∷ []
place_fields (Rect x y width height color stroke fill) = Number x ∷ Number y ∷ []
place_fields (Circle x y radius color stroke fill) = Number x ∷ Number y ∷ []
place_fields (Arc x y radius start sweep color stroke) = Number x ∷ Number y ∷ []
place_fields (Text t) = text_fields t
place_fields (Net x1 y1 x2 y2 color) =
    Number x1 ∷ Number y1 ∷ Number x2 ∷ Number y2 ∷ Number color ∷ []
place_fields (Bus x1 y1 x2 y2 color ripper) = Number x1 ∷ Number y1 ∷ Number x2 ∷ Number y2 ∷ []
place_fields (Pin x1 y1 x2 y2 color bus whichend) =
    Number x1 ∷ Number y1 ∷ Number x2 ∷ Number y2 ∷ []
place_fields (Path color stroke fill content) = []

-- how far it reaches from there
abbrev pub extent_fields : Shape → List Field
extent_fields (Picture x y width height angle mirrored file embedded) =
    Number width ∷ Number height ∷ []
extent_fields (Rect x y width height color stroke fill) = Number width ∷ Number height ∷ []
extent_fields (Circle x y radius color stroke fill) = Number radius ∷ []
extent_fields (Arc x y radius start sweep color stroke) =
    Number radius ∷ Number start ∷ Number sweep ∷ []
extent_fields s = []

-- its colour
abbrev pub color_fields : Shape → List Field
color_fields (Straight x1 y1 x2 y2 color stroke) = Number color ∷ []
color_fields (Picture x y width height angle mirrored file embedded) = []
color_fields (Rect x y width height color stroke fill) = Number color ∷ []
color_fields (Circle x y radius color stroke fill) = Number color ∷ []
color_fields (Arc x y radius start sweep color stroke) = Number color ∷ []
color_fields (Text t) = []
color_fields (Net x1 y1 x2 y2 color) = []
color_fields (Bus x1 y1 x2 y2 color ripper) = Number color ∷ []
color_fields (Pin x1 y1 x2 y2 color bus whichend) = Number color ∷ []
color_fields (Path color stroke fill content) = Number color ∷ []

-- how its line is drawn, and how its area is filled
abbrev pub style_fields : Shape → List Field
style_fields (Straight x1 y1 x2 y2 color stroke) = stroke_fields stroke
style_fields (Rect x y width height color stroke fill) = stroke_fields stroke ++ fill_fields fill
style_fields (Circle x y radius color stroke fill) = stroke_fields stroke ++ fill_fields fill
style_fields (Arc x y radius start sweep color stroke) = stroke_fields stroke
style_fields (Path color stroke fill content) = stroke_fields stroke ++ fill_fields fill
style_fields s = []

-- the columns that no other shape has
abbrev pub own_fields : Shape → List Field
own_fields (Picture x y width height angle mirrored file embedded) =
    natural angle ∷ bit mirrored ∷ bit (is_some embedded) ∷ []
own_fields (Bus x1 y1 x2 y2 color ripper) = Number ripper ∷ []
own_fields (Pin x1 y1 x2 y2 color bus whichend) = bit bus ∷ natural whichend ∷ []
own_fields (Path color stroke fill content) = natural (line_feeds content + 1) ∷ []
own_fields s = []

-- the columns behind those of its place
abbrev pub columns_text : Shape → List ℕ
columns_text s =
    fields_text (extent_fields s) ++ (fields_text (color_fields s) ++
    (fields_text (style_fields s) ++ fields_text (own_fields s)))

-- what follows the line
abbrev pub following_text : Shape → List ℕ
following_text (Text t) = ended t.content
following_text (Path color stroke fill content) = ended content
following_text (Picture x y width height angle mirrored file embedded) =
    ended file ++ data_text embedded
following_text s = []
