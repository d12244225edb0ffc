-- Objects, sheets and symbols.
use Rattle.std.specs.Prelude.{ℕ, ◌<◌, ◌≤◌, ◌≡◌, ◌⊎◌, List, [], ◌∷◌, ◌++◌, All, length}
use Rattle.geda_model.specs.declared.object.Body.{Body}
use Rattle.geda_model.specs.declared.object.Body.TheVariants.{Shape, Component}
use Rattle.geda_model.specs.Data.{TextData}
use Rattle.geda_model.specs.Ranges.{IsText}
use Rattle.geda_model.specs.Shapes.{PartData, ShapeIsInRange, ComponentIsInRange, ArePartsInRange}

-- an object of a sheet, with its attached texts
pub record ObjectData : Type 0 where
  pub body : Body
  pub attrs : List TextData

-- an object with one more text
abbrev pub object_with : TextData → ObjectData → ObjectData
object_with t o = record { body = o.body; attrs = o.attrs ++ t ∷ [] }

-- each field of a shape or of a component, with its symbol
abbrev pub BodyIsInRange : Body → Type 0
BodyIsInRange (Shape s) = ShapeIsInRange s
BodyIsInRange (Component c) = ComponentIsInRange c

-- each field of an object is in its range
pub record ObjectIsInRange (o : ObjectData) : Type 0 where
  pub body : BodyIsInRange o.body
  pub attrs : All IsText o.attrs

-- each object is, and they are at most 4,294,967,295
pub record AreObjectsInRange (objects : List ObjectData) : Type 0 where
  pub each : All ObjectIsInRange objects
  pub few : length objects ≤ 4294967295

-- the version line: eight digits of a date, and the format
pub record HeadData : Type 0 where
  pub date : ℕ
  pub format : ℕ

-- eight digits, and 1 or 2
pub record IsHead (h : HeadData) : Type 0 where
  pub date : h.date < 100000000
  pub format : (h.format ≡ 1) ⊎ (h.format ≡ 2)

-- a sheet: its version line and its objects
pub record SheetData : Type 0 where
  pub head : HeadData
  pub objects : List ObjectData

-- a symbol: its version line and its parts
pub record SymbolData : Type 0 where
  pub head : HeadData
  pub parts : List PartData

-- each number and text of the sheet is in its range
pub record SheetIsInRange (s : SheetData) : Type 0 where
  pub head : IsHead s.head
  pub objects : AreObjectsInRange s.objects

-- so is each of the symbol
pub record SymbolIsInRange (s : SymbolData) : Type 0 where
  pub head : IsHead s.head
  pub parts : ArePartsInRange s.parts
