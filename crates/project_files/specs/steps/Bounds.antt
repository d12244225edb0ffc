-- Steps of the code; no public clause cites them.
-- What texts have at most, as it is told without counting their numbers (own).
use Rattle.std.specs.Prelude.{ℕ, ◌+◌, ◌-◌, ◌^◌, min, List, Option, Some, None, length}
use Rattle.std.specs.List.{sum_by}
use Rattle.geda_model.specs.Data.{TextData}
use Rattle.geda_model.specs.Shapes.{PartData}
use Rattle.geda_model.specs.declared.object.Body.{Body}
use Rattle.geda_model.specs.declared.object.Body.TheVariants as bodies
use Rattle.geda_model.specs.declared.shape.Shape.{Shape}
use Rattle.geda_model.specs.declared.shape.Shape.TheVariants as shapes

-- a text: the nine numbers of its line, and its content
abbrev pub text_most : TextData → ℕ
text_most t = length t.content + 90

-- attached texts, with their brackets
abbrev pub attached_most : List TextData → ℕ
attached_most texts = 4 + sum_by text_most texts

-- a wire and a text; the other shapes are counted
abbrev pub shape_most : Shape → Option ℕ
shape_most (shapes.Net x1 y1 x2 y2 color) = Some 50
shape_most (shapes.Text t) = Some (min (text_most t) (2 ^ 64 - 1))
shape_most s = None

-- a component of a library; an embedded one is counted
abbrev pub symbol_most : Option (List PartData) → Option ℕ
symbol_most None = Some 250
symbol_most (Some parts) = None

abbrev pub body_most : Body → Option ℕ
body_most (bodies.Shape s) = shape_most s
body_most (bodies.Component c) = symbol_most c.embedded
