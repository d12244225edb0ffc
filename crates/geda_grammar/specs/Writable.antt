-- The sheets, symbols and objects whose canonical text can be read again (own).
use Rattle.std.specs.Prelude.{◌≡◌, ◌≤◌, ◌<◌, ℕ, false, List, Option, Some, None, All, length}
use Rattle.geda_model.specs.Limits.{most_embedded_bytes, most_file_bytes, most_objects}
use Rattle.geda_model.specs.Ranges.{has_cr_end}
use Rattle.geda_model.specs.Shapes.{PartData}
use Rattle.geda_model.specs.Sheets.{ObjectData, SheetData, SymbolData, ObjectIsInRange, SheetIsInRange, SymbolIsInRange}
use Rattle.geda_model.specs.declared.shape.Shape.{Shape}
use Rattle.geda_model.specs.declared.shape.Shape.TheVariants.{Picture}
use Rattle.geda_model.specs.declared.object.Body.{Body}
use Rattle.geda_model.specs.declared.object.Body.TheVariants as bodies
use Rattle.geda_grammar.specs.Rows.{is_embedding}
use Rattle.geda_grammar.specs.Canonical.{object_text, sheet_text, symbol_text}

-- no line of the data ends in CR, where there is data
abbrev pub HasNoCr : Option (List ℕ) → Type 0
HasNoCr None = Unit {0}
HasNoCr (Some lines) = has_cr_end lines ≡ false

-- no kept line ends in CR: texts and paths keep that by themselves
abbrev pub ShapeIsWritable : Shape → Type 0
ShapeIsWritable (Picture x y width height angle mirrored file embedded) =
    (has_cr_end file ≡ false) × HasNoCr embedded
ShapeIsWritable shape = Unit {0}

-- no kept line of a part ends in CR
abbrev pub PartIsWritable : PartData → Type 0
PartIsWritable p = ShapeIsWritable p.shape

-- a basename without embedded symbol is not empty and does not begin with `EMBEDDED`; one with an
-- embedded symbol is at most 192 bytes, and the symbol has at most 100,000 parts
pub record IsLibraryName (basename : List ℕ) : Type 0 where
  pub filled : 0 < length basename
  pub other : is_embedding basename ≡ false

pub record IsEmbeddedSymbol (basename : List ℕ) (parts : List PartData) : Type 0 where
  pub short : length basename ≤ most_embedded_bytes
  pub few : length parts ≤ most_objects
  pub each : All PartIsWritable parts

abbrev pub SymbolIsWritable : List ℕ → Option (List PartData) → Type 0
SymbolIsWritable basename None = IsLibraryName basename
SymbolIsWritable basename (Some parts) = IsEmbeddedSymbol basename parts

abbrev pub BodyIsWritable : Body → Type 0
BodyIsWritable (bodies.Shape s) = ShapeIsWritable s
BodyIsWritable (bodies.Component c) = SymbolIsWritable c.basename c.embedded

-- an object
abbrev pub ObjectIsWritable : ObjectData → Type 0
ObjectIsWritable o = BodyIsWritable o.body

-- a sheet: each field in its range, at most 100,000 objects, at most 4,194,304 bytes of text
pub record WritableSheet (s : SheetData) : Type 0 where
  pub in_range : SheetIsInRange s
  pub few : length s.objects ≤ most_objects
  pub each : All ObjectIsWritable s.objects
  pub size : length (sheet_text s) ≤ most_file_bytes

-- the same of a symbol, and of an object
pub record WritableSymbol (s : SymbolData) : Type 0 where
  pub in_range : SymbolIsInRange s
  pub few : length s.parts ≤ most_objects
  pub each : All PartIsWritable s.parts
  pub size : length (symbol_text s) ≤ most_file_bytes

pub record WritableObject (o : ObjectData) : Type 0 where
  pub in_range : ObjectIsInRange o
  pub each : ObjectIsWritable o
  pub size : length (object_text o) ≤ most_file_bytes
