-- What a motion makes of an object (own): each point of it, of its attached texts and of its
-- embedded symbol is taken along.
use Rattle.std.specs.Prelude.{ℤ, List, [], ◌∷◌, map, Option, None, Some, option_map, option_and_then}
use Rattle.geda_geom.specs.declared.conductor.Point.{Point}
use Rattle.geda_model.specs.declared.shape.Shape.{Shape}
use Rattle.geda_model.specs.declared.shape.Shape.TheVariants as shapes
use Rattle.geda_model.specs.declared.object.Body.{Body}
use Rattle.geda_model.specs.declared.object.Body.TheVariants as bodies
use Rattle.geda_model.specs.Data.{TextData}
use Rattle.geda_model.specs.Shapes.{PartData, ComponentData}
use Rattle.geda_model.specs.Sheets.{ObjectData}
use Rattle.edit_move.specs.declared.motion.Motion.{Motion}
use Rattle.edit_move.specs.Motions.{point_after, text_angle, component_angle, component_mirror}

-- what follows where nothing has left the sheet
infixl 10 ◌>>=◌
abbrev pub ◌>>=◌ : {A B : Type 0} → Option A → (A → Option B) → Option B
o >>= f = option_and_then f o

-- the point of two coordinates
abbrev pub at : ℤ → ℤ → Point
at across up = record { x = across; y = up }

-- the values, if none is missing
abbrev pub all_of : {A : Type 0} → List (Option A) → Option (List A)
all_of [] = Some []
all_of (value ∷ values) = do
  first ← value
  others ← all_of values
  Some (first ∷ others)

-- both ends of a line
unfoldable pub ends_after : Motion → Point → Point → Option (Point × Point)
ends_after motion from to = do
  first ← point_after motion from
  second ← point_after motion to
  Some (first, second)

-- a text: its point and its angle; its alignment stays
unfoldable pub text_after : Motion → TextData → Option TextData
text_after motion t = do
  p ← point_after motion (at t.x t.y)
  Some (record {
    x = p.x;
    y = p.y;
    color = t.color;
    size = t.size;
    visible = t.visible;
    show = t.show;
    angle = text_angle motion t.angle;
    align = t.align;
    content = t.content;
  })

-- texts, each by itself
unfoldable pub texts_after : Motion → List TextData → Option (List TextData)
texts_after motion texts = all_of (map (text_after motion) texts)

-- a shape: its points, of which a path has none
unfoldable pub shape_after : Motion → Shape → Option Shape
shape_after motion (shapes.Straight x1 y1 x2 y2 color stroke) = do
  e ← ends_after motion (at x1 y1) (at x2 y2)
  Some (shapes.Straight e.0.x e.0.y e.1.x e.1.y color stroke)
shape_after motion (shapes.Picture x y width height angle mirrored file embedded) = do
  p ← point_after motion (at x y)
  Some (shapes.Picture p.x p.y width height angle mirrored file embedded)
shape_after motion (shapes.Rect x y width height color stroke fill) = do
  p ← point_after motion (at x y)
  Some (shapes.Rect p.x p.y width height color stroke fill)
shape_after motion (shapes.Circle x y radius color stroke fill) = do
  p ← point_after motion (at x y)
  Some (shapes.Circle p.x p.y radius color stroke fill)
shape_after motion (shapes.Arc x y radius start sweep color stroke) = do
  p ← point_after motion (at x y)
  Some (shapes.Arc p.x p.y radius start sweep color stroke)
shape_after motion (shapes.Text t) = do
  u ← text_after motion t
  Some (shapes.Text u)
shape_after motion (shapes.Net x1 y1 x2 y2 color) = do
  e ← ends_after motion (at x1 y1) (at x2 y2)
  Some (shapes.Net e.0.x e.0.y e.1.x e.1.y color)
shape_after motion (shapes.Bus x1 y1 x2 y2 color ripper) = do
  e ← ends_after motion (at x1 y1) (at x2 y2)
  Some (shapes.Bus e.0.x e.0.y e.1.x e.1.y color ripper)
shape_after motion (shapes.Pin x1 y1 x2 y2 color bus whichend) = do
  e ← ends_after motion (at x1 y1) (at x2 y2)
  Some (shapes.Pin e.0.x e.0.y e.1.x e.1.y color bus whichend)
shape_after motion (shapes.Path color stroke fill content) =
    Some (shapes.Path color stroke fill content)

-- a part of a symbol, with its attached texts
unfoldable pub part_after : Motion → PartData → Option PartData
part_after motion p = do
  shape ← shape_after motion p.shape
  attrs ← texts_after motion p.attrs
  Some (record { shape = shape; attrs = attrs })

-- parts, each by itself
unfoldable pub parts_after : Motion → List PartData → Option (List PartData)
parts_after motion parts = all_of (map (part_after motion) parts)

-- the embedded symbol of a component, where it has one
unfoldable pub embedded_after : Motion → Option (List PartData) → Option (Option (List PartData))
embedded_after motion None = Some None
embedded_after motion (Some parts) = option_map Some (parts_after motion parts)

-- a component: its place, its angle, its mirror flag and its embedded symbol
unfoldable pub component_after : Motion → ComponentData → Option ComponentData
component_after motion c = do
  p ← point_after motion (at c.x c.y)
  embedded ← embedded_after motion c.embedded
  Some (record {
    x = p.x;
    y = p.y;
    selectable = c.selectable;
    angle = component_angle motion c.angle;
    mirror = component_mirror motion c.mirror;
    basename = c.basename;
    embedded = embedded;
  })

-- a shape or a component
unfoldable pub body_after : Motion → Body → Option Body
body_after motion (bodies.Shape s) = option_map bodies.Shape (shape_after motion s)
body_after motion (bodies.Component c) = option_map bodies.Component (component_after motion c)

-- an object, with its attached texts
unfoldable pub object_after : Motion → ObjectData → Option ObjectData
object_after motion o = do
  body ← body_after motion o.body
  attrs ← texts_after motion o.attrs
  Some (record { body = body; attrs = attrs })
