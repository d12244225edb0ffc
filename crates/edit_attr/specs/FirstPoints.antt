-- The first point of an object (own).
use Rattle.std.specs.Prelude.{ℤ, pos}
use Rattle.geda_geom.specs.declared.conductor.Point.{Point}
use Rattle.geda_model.specs.declared.shape.Shape.{Shape}
use Rattle.geda_model.specs.declared.shape.Shape.TheVariants as shapes
use Rattle.geda_model.specs.declared.object.Body.{Body}
use Rattle.geda_model.specs.declared.object.Body.TheVariants as bodies

-- the point of two coordinates
abbrev pub point_at : ℤ → ℤ → Point
point_at across up = record { x = across; y = up }

-- a line's first end, a box's corner, a centre, where a text or a picture stands; (0,0) of a path
abbrev pub first_of_shape : Shape → Point
first_of_shape (shapes.Straight x1 y1 x2 y2 color stroke) = point_at x1 y1
first_of_shape (shapes.Picture x y width height angle mirrored file embedded) = point_at x y
first_of_shape (shapes.Rect x y width height color stroke fill) = point_at x y
first_of_shape (shapes.Circle x y radius color stroke fill) = point_at x y
first_of_shape (shapes.Arc x y radius start sweep color stroke) = point_at x y
first_of_shape (shapes.Text t) = point_at t.x t.y
first_of_shape (shapes.Net x1 y1 x2 y2 color) = point_at x1 y1
first_of_shape (shapes.Bus x1 y1 x2 y2 color ripper) = point_at x1 y1
first_of_shape (shapes.Pin x1 y1 x2 y2 color bus whichend) = point_at x1 y1
first_of_shape (shapes.Path color stroke fill content) = point_at (pos 0) (pos 0)

-- the same of an object; where a component stands
unfoldable pub first_point : Body → Point
first_point (bodies.Shape s) = first_of_shape s
first_point (bodies.Component c) = point_at c.x c.y
