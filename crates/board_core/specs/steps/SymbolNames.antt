-- Steps of the code; no public clause cites them.
-- The names of library symbols that objects have, as a set that may have more (own).
use Rattle.std.specs.Prelude.{◌≡◌, ⊤, ℕ, Bool, true, false, List, Option, Some, None}
use Rattle.geda_model.specs.declared.object.Body.{Body}
use Rattle.geda_model.specs.declared.object.Body.TheVariants as bodies
use Rattle.geda_model.specs.Shapes.{PartData}
use Rattle.geda_model.specs.Sheets.{ObjectData}
use Rattle.project_model.specs.declared.change.Placed.{Placed}
use Rattle.project_model.specs.Items.{Item}
use Rattle.board_core.specs.Changed.{has_thing, is_symbol}
use Rattle.board_core.specs.steps.Members.{In}

-- which names are known
abbrev pub Known : Type 0
Known = List ℕ → Bool

-- the name of the library symbol of a component: one with an embedded symbol has none
abbrev pub name_beside : List ℕ → Option (List PartData) → Option (List ℕ)
name_beside basename None = Some basename
name_beside basename (Some parts) = None

-- the name of the library symbol of an object, which a shape has none of
abbrev pub library_name : ObjectData → Option (List ℕ)
library_name o = of_body o.body
  where
    of_body : Body → Option (List ℕ)
    of_body (bodies.Shape s) = None
    of_body (bodies.Component c) = name_beside c.basename c.embedded

-- a name is known, if there is one
abbrev pub IsKnown : Known → Option (List ℕ) → Type 0
IsKnown known None = ⊤
IsKnown known (Some name) = known name ≡ true

-- the library symbols of all these objects are known
abbrev pub AreKnown : Known → List (ℕ × Placed) → Type 0
AreKnown known rows =
    (row : ℕ × Placed) → In row rows → IsKnown known (library_name row.1.object)

-- no name is forgotten
abbrev pub KnowsMore : Known → Known → Type 0
KnowsMore old new = (name : List ℕ) → old name ≡ true → new name ≡ true

-- no symbol of a change is known
abbrev pub HasNoneKnown : Known → List Item → Type 0
HasNoneKnown known items =
    (name : List ℕ) → known name ≡ true → has_thing (is_symbol name) items ≡ false
