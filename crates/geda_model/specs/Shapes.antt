-- Shapes, parts and components, and the ranges that they keep (gEDA File Format Document).
use Rattle.std.specs.Prelude.{ℕ, ℤ, ◌≤◌, Bool, List, [], ◌∷◌, ◌++◌, Option, Some, None, All, length, unsigned_abs}
use Rattle.geda_model.specs.declared.shape.Shape.{Shape}
use Rattle.geda_model.specs.declared.shape.Shape.TheVariants.{Straight, Picture, Rect, Circle, Arc, Text, Net, Bus, Pin, Path}
use Rattle.geda_model.specs.Names.{IsLine, IsWord}
use Rattle.geda_model.specs.Data.{TextData}
use Rattle.geda_model.specs.Ranges.{IsCoordinate, IsNumber, IsAngle, IsText, IsStroke, IsFill, IsContent, IsPictureData}

-- a shape of a symbol, with its attached texts
pub record PartData : Type 0 where
  pub shape : Shape
  pub attrs : List TextData

-- all as they are but for the last one
abbrev pub with_last : {A : Type 0} → (A → A) → List A → List A
with_last f [] = []
with_last f (a ∷ []) = f a ∷ []
with_last f (a ∷ b ∷ rest) = a ∷ with_last f (b ∷ rest)

-- a part with one more text
abbrev pub part_with : TextData → PartData → PartData
part_with t p = record { shape = p.shape; attrs = p.attrs ++ t ∷ [] }

-- the ends and the colour of a line
pub record IsSegment (left bottom right top hue : ℤ) : Type 0 where
  pub x1 : IsCoordinate left
  pub y1 : IsCoordinate bottom
  pub x2 : IsCoordinate right
  pub y2 : IsCoordinate top
  pub color : IsNumber hue

-- a point
pub record IsPoint (across up : ℤ) : Type 0 where
  pub x : IsCoordinate across
  pub y : IsCoordinate up

-- the data of a picture, where it is embedded
abbrev pub IsEmbeddedData : Option (List ℕ) → Type 0
IsEmbeddedData None = Unit {0}
IsEmbeddedData (Some lines) = IsPictureData lines

-- each field of the shape is in its range
abbrev pub ShapeIsInRange : Shape → Type 0
ShapeIsInRange (Straight x1 y1 x2 y2 color stroke) =
    IsSegment x1 y1 x2 y2 color × IsStroke stroke
ShapeIsInRange (Picture x y width height angle mirrored file embedded) =
    IsPoint x y × IsNumber width × IsNumber height
    × IsAngle angle × IsLine file × IsEmbeddedData embedded
ShapeIsInRange (Rect x y width height color stroke fill) =
    IsPoint x y × IsNumber width × IsNumber height
    × IsNumber color × IsStroke stroke × IsFill fill
ShapeIsInRange (Circle x y radius color stroke fill) =
    IsPoint x y × IsNumber radius × IsNumber color × IsStroke stroke × IsFill fill
ShapeIsInRange (Arc x y radius start sweep color stroke) =
    IsPoint x y × IsNumber radius × IsNumber start
    × IsNumber sweep × IsNumber color × IsStroke stroke
ShapeIsInRange (Text t) = IsText t
ShapeIsInRange (Net x1 y1 x2 y2 color) = IsSegment x1 y1 x2 y2 color
ShapeIsInRange (Bus x1 y1 x2 y2 color ripper) =
    IsSegment x1 y1 x2 y2 color × (unsigned_abs ripper ≤ 1)
ShapeIsInRange (Pin x1 y1 x2 y2 color bus whichend) =
    IsSegment x1 y1 x2 y2 color × (whichend ≤ 1)
ShapeIsInRange (Path color stroke fill content) =
    IsNumber color × IsStroke stroke × IsFill fill × IsContent content

-- so is each field of a part
pub record PartIsInRange (p : PartData) : Type 0 where
  pub shape : ShapeIsInRange p.shape
  pub attrs : All IsText p.attrs

-- a placed symbol, embedded or of a library
pub record ComponentData : Type 0 where
  pub x : ℤ
  pub y : ℤ
  pub selectable : Bool
  pub angle : ℕ
  pub mirror : Bool
  pub basename : List ℕ
  pub embedded : Option (List PartData)

-- the component's own fields
pub record IsComponent (c : ComponentData) : Type 0 where
  pub x : IsCoordinate c.x
  pub y : IsCoordinate c.y
  pub angle : IsAngle c.angle
  pub basename : IsWord c.basename

-- so is each part of a symbol, and they are at most 4,294,967,295
pub record ArePartsInRange (parts : List PartData) : Type 0 where
  pub each : All PartIsInRange parts
  pub few : length parts ≤ 4294967295

-- the same of a component's symbol, where it is embedded
abbrev pub EmbeddedIsInRange : Option (List PartData) → Type 0
EmbeddedIsInRange None = Unit {0}
EmbeddedIsInRange (Some parts) = ArePartsInRange parts

-- and those of its embedded symbol
pub record ComponentIsInRange (c : ComponentData) : Type 0 where
  pub own : IsComponent c
  pub embedded : EmbeddedIsInRange c.embedded
