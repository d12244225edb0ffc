-- Which rows spell objects (gEDA File Format Document; where a block may be left out is own). Each
-- definition says: the rows begin with a spelling of this, and what comes after it is as `rest`
-- says.
use Rattle.std.specs.Prelude.{◌≡◌, ◌≤◌, ◌⊎◌, ℕ, List, [], ◌∷◌, length, Option, Some, None}
use Rattle.geda_model.specs.Limits.{most_objects}
use Rattle.geda_model.specs.Data.{TextData}
use Rattle.geda_model.specs.Shapes.{PartData, ComponentData}
use Rattle.geda_model.specs.Sheets.{ObjectData}
use Rattle.geda_model.specs.declared.shape.Shape.TheVariants as shapes
use Rattle.geda_model.specs.declared.object.Body.{Body}
use Rattle.geda_model.specs.declared.object.Body.TheVariants as bodies
use Rattle.geda_grammar.specs.declared.row.Row.{Row}
use Rattle.geda_grammar.specs.declared.row.Row.TheVariants.{Drawn, Library, Embedding, OpenBlock, CloseBlock, OpenSymbol, CloseSymbol}
use Rattle.geda_grammar.specs.Rows.{component_line_of}

-- nothing comes
abbrev pub End : List Row → Type 0
End rows = rows ≡ []

-- this row
abbrev pub ThenRow : Row → (List Row → Type 0) → List Row → Type 0
ThenRow row rest [] = ⊥
ThenRow row rest (r ∷ rs) = (r ≡ row) × rest rs

-- each of a list, in order
abbrev pub ThenEach : {A : Type 0} → (A → (List Row → Type 0) → List Row → Type 0) → List A →
    (List Row → Type 0) → List Row → Type 0
ThenEach Then [] rest = rest
ThenEach Then (a ∷ more) rest = Then a (ThenEach Then more rest)

-- one text of a block
abbrev pub ThenText : TextData → (List Row → Type 0) → List Row → Type 0
ThenText t rest = ThenRow (Drawn (shapes.Text t)) rest

-- a block of texts
abbrev pub ThenBlock : List TextData → (List Row → Type 0) → List Row → Type 0
ThenBlock ts rest = ThenRow OpenBlock (ThenEach ThenText ts (ThenRow CloseBlock rest))

-- attached texts: a block of them; for none an empty block or no block
abbrev pub ThenAttached : List TextData → (List Row → Type 0) → List Row → Type 0
ThenAttached [] rest rows = rest rows ⊎ ThenBlock [] rest rows
ThenAttached (t ∷ ts) rest rows = ThenBlock (t ∷ ts) rest rows

-- a part of a symbol
abbrev pub ThenPart : PartData → (List Row → Type 0) → List Row → Type 0
ThenPart p rest = ThenRow (Drawn p.shape) (ThenAttached p.attrs rest)

-- an embedded symbol between its brackets, which has at most 100,000 parts
abbrev pub ThenSymbol : List PartData → (List Row → Type 0) → List Row → Type 0
ThenSymbol parts rest rows =
    (length parts ≤ most_objects) ×
    ThenRow OpenSymbol (ThenEach ThenPart parts (ThenRow CloseSymbol rest)) rows

-- a component, by its symbol
abbrev pub ThenComponent : ComponentData → Option (List PartData) → (List Row → Type 0) → List Row →
    Type 0
ThenComponent c None rest = ThenRow (Library (component_line_of c)) rest
ThenComponent c (Some parts) rest =
    ThenRow (Embedding (component_line_of c)) (ThenSymbol parts rest)

-- what an object is
abbrev pub ThenBody : Body → (List Row → Type 0) → List Row → Type 0
ThenBody (bodies.Shape s) rest = ThenRow (Drawn s) rest
ThenBody (bodies.Component c) rest = ThenComponent c c.embedded rest

-- an object of a sheet
abbrev pub ThenObject : ObjectData → (List Row → Type 0) → List Row → Type 0
ThenObject o rest = ThenBody o.body (ThenAttached o.attrs rest)

-- the rows spell the objects of a sheet, and no more than so many
pub record SpellObjects (most : ℕ) (objects : List ObjectData) (rows : List Row) : Type 0 where
  pub few : length objects ≤ most
  pub each : ThenEach ThenObject objects End rows

-- the rows spell the parts of a symbol, which holds no component
pub record SpellParts (parts : List PartData) (rows : List Row) : Type 0 where
  pub few : length parts ≤ most_objects
  pub each : ThenEach ThenPart parts End rows
