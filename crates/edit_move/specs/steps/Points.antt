-- The points of a shape, each coordinate put to another place.
use Rattle.geda_geom.specs.declared.conductor.Point.{Point}
use Rattle.geda_model.specs.declared.shape.Shape.{Shape}
use Rattle.geda_model.specs.declared.shape.Shape.TheVariants as shapes

-- the first end of a line, or the single point of a picture, a box, a circle or an arc, across
abbrev pub with_first_x : Point → Shape → Shape
with_first_x p (shapes.Straight x1 y1 x2 y2 color stroke) =
    shapes.Straight p.x y1 x2 y2 color stroke
with_first_x p (shapes.Picture x y width height angle mirrored file embedded) =
    shapes.Picture p.x y width height angle mirrored file embedded
with_first_x p (shapes.Rect x y width height color stroke fill) =
    shapes.Rect p.x y width height color stroke fill
with_first_x p (shapes.Circle x y radius color stroke fill) =
    shapes.Circle p.x y radius color stroke fill
with_first_x p (shapes.Arc x y radius start sweep color stroke) =
    shapes.Arc p.x y radius start sweep color stroke
with_first_x p (shapes.Net x1 y1 x2 y2 color) = shapes.Net p.x y1 x2 y2 color
with_first_x p (shapes.Bus x1 y1 x2 y2 color ripper) = shapes.Bus p.x y1 x2 y2 color ripper
with_first_x p (shapes.Pin x1 y1 x2 y2 color bus whichend) =
    shapes.Pin p.x y1 x2 y2 color bus whichend
with_first_x p other = other

-- the same point, up
abbrev pub with_first_y : Point → Shape → Shape
with_first_y p (shapes.Straight x1 y1 x2 y2 color stroke) =
    shapes.Straight x1 p.y x2 y2 color stroke
with_first_y p (shapes.Picture x y width height angle mirrored file embedded) =
    shapes.Picture x p.y width height angle mirrored file embedded
with_first_y p (shapes.Rect x y width height color stroke fill) =
    shapes.Rect x p.y width height color stroke fill
with_first_y p (shapes.Circle x y radius color stroke fill) =
    shapes.Circle x p.y radius color stroke fill
with_first_y p (shapes.Arc x y radius start sweep color stroke) =
    shapes.Arc x p.y radius start sweep color stroke
with_first_y p (shapes.Net x1 y1 x2 y2 color) = shapes.Net x1 p.y x2 y2 color
with_first_y p (shapes.Bus x1 y1 x2 y2 color ripper) = shapes.Bus x1 p.y x2 y2 color ripper
with_first_y p (shapes.Pin x1 y1 x2 y2 color bus whichend) =
    shapes.Pin x1 p.y x2 y2 color bus whichend
with_first_y p other = other

-- the second end of a line, across
abbrev pub with_second_x : Point → Shape → Shape
with_second_x p (shapes.Straight x1 y1 x2 y2 color stroke) =
    shapes.Straight x1 y1 p.x y2 color stroke
with_second_x p (shapes.Net x1 y1 x2 y2 color) = shapes.Net x1 y1 p.x y2 color
with_second_x p (shapes.Bus x1 y1 x2 y2 color ripper) = shapes.Bus x1 y1 p.x y2 color ripper
with_second_x p (shapes.Pin x1 y1 x2 y2 color bus whichend) =
    shapes.Pin x1 y1 p.x y2 color bus whichend
with_second_x p other = other

-- the same end, up
abbrev pub with_second_y : Point → Shape → Shape
with_second_y p (shapes.Straight x1 y1 x2 y2 color stroke) =
    shapes.Straight x1 y1 x2 p.y color stroke
with_second_y p (shapes.Net x1 y1 x2 y2 color) = shapes.Net x1 y1 x2 p.y color
with_second_y p (shapes.Bus x1 y1 x2 y2 color ripper) = shapes.Bus x1 y1 x2 p.y color ripper
with_second_y p (shapes.Pin x1 y1 x2 y2 color bus whichend) =
    shapes.Pin x1 y1 x2 p.y color bus whichend
with_second_y p other = other
