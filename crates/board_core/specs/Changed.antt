-- What a change has, and which objects and sheets it touches (own).
use Rattle.std.specs.Prelude.{◌≡◌, ◌⊎◌, ◌==◌, ◌||◌, ℕ, Bool, true, false, List, Option, Some, None}
use Rattle.std.specs.FinMap.{get}
use Rattle.std.specs.List.{list_any}
use Rattle.std.specs.Str.{bytes_eq}
use Rattle.project_model.specs.declared.change.Placed.{Placed}
use Rattle.project_model.specs.declared.change.Thing.{Thing}
use Rattle.project_model.specs.declared.change.Thing.TheVariants as things
use Rattle.geda_model.specs.declared.object.Body.{Body}
use Rattle.geda_model.specs.declared.object.Body.TheVariants as bodies
use Rattle.project_model.specs.Items.{Item}
use Rattle.geda_model.specs.Shapes.{PartData}
use Rattle.geda_model.specs.Sheets.{ObjectData}
use Rattle.project_model.specs.Projects.{ProjectData}
use Rattle.project_model.specs.Changes.{put}

-- the thing is the object of this id, the sheet of this name, the symbol of this name
abbrev pub is_object : ℕ → Thing → Bool
is_object id (things.Object other) = other == id
is_object id other = false

abbrev pub is_sheet : List ℕ → Thing → Bool
is_sheet name (things.SheetName other) = bytes_eq other name
is_sheet name other = false

abbrev pub is_symbol : List ℕ → Thing → Bool
is_symbol name (things.SymbolName other) = bytes_eq other name
is_symbol name other = false

-- some item of a change is of such a thing
abbrev pub has_thing : (Thing → Bool) → List Item → Bool
has_thing is items = list_any (λ (item : Item). is item.0) items

-- a change has the symbol of this name, for a component that has no embedded one
abbrev pub has_symbol : List Item → List ℕ → Option (List PartData) → Bool
has_symbol items basename None = has_thing (is_symbol basename) items
has_symbol items basename (Some parts) = false

-- a change has the library symbol of this object: a shape has none, nor has a component with an
-- embedded symbol
abbrev pub has_symbol_of : List Item → ObjectData → Bool
has_symbol_of items o = of_body o.body
  where
    of_body : Body → Bool
    of_body (bodies.Shape s) = false
    of_body (bodies.Component c) = has_symbol items c.basename c.embedded

-- a change has this object, or its library symbol: what it has of conductors leaves, and comes anew
abbrev pub is_changed : List Item → ℕ × Placed → Bool
is_changed items row = has_thing (is_object row.0) items || has_symbol_of items row.1.object

-- an object of a project that a change touches names the sheet, which need not be there itself
pub record HasChanged (p : ProjectData) (items : List Item) (sheet : List ℕ) : Type 0 where
  pub id : ℕ
  pub placed : Placed
  pub there : get p.objects id ≡ Some placed
  pub on_sheet : placed.sheet ≡ sheet
  pub changed : is_changed items (id, placed) ≡ true

-- a change touches a sheet: it has its name, or touches an object that names it before the change
-- or after it
abbrev pub TouchesSheet : ProjectData → List Item → List ℕ → Type 0
TouchesSheet p items sheet =
    (has_thing (is_sheet sheet) items ≡ true)
    ⊎ (HasChanged p items sheet ⊎ HasChanged (put p items) items sheet)
