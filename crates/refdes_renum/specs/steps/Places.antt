-- What comes of one place.
use Rattle.std.specs.Prelude.{◌≡◌, ℕ, Bool, List, [], ◌∷◌, Option, None, Some}
use Rattle.project_model.specs.declared.change.Placed.{Placed}
use Rattle.project_model.specs.declared.change.Thing.TheVariants as things
use Rattle.project_model.specs.declared.change.Value.TheVariants as values
use Rattle.project_model.specs.Items.{Item}
use Rattle.project_model.specs.Projects.{ProjectData}
use Rattle.refdes_renum.specs.Numbers.{stem_with_number}
use Rattle.refdes_renum.specs.Renumbering.{stem_at, with_refdes}
use Rattle.refdes_renum.specs.steps.UsedTexts.{AddsText, SetsNext, given_number}

-- the new refdes of an object, by what is kept
abbrev pub given_refdes : ProjectData → (List ℕ → Bool) → (List ℕ → Option ℕ) → Placed → List ℕ
given_refdes p has next placed =
    stem_with_number (stem_at p placed) (given_number has next (stem_at p placed))

-- what comes of an object, if it is there
abbrev pub items_by : ProjectData → (List ℕ → Bool) → (List ℕ → Option ℕ) → ℕ → Option Placed
    → List Item
items_by p has next id None = []
items_by p has next id (Some placed) =
    (things.Object id, Some (values.Object (with_refdes (given_refdes p has next placed) placed)))
    ∷ []

-- what is kept then
abbrev pub GivesRefdes : ProjectData → Option Placed → (List ℕ → Bool) → (List ℕ → Option ℕ)
    → (List ℕ → Bool) → (List ℕ → Option ℕ) → Type 0
GivesRefdes p None has next new later = (new ≡ has) × (later ≡ next)
GivesRefdes p (Some placed) has next new later =
    AddsText (given_refdes p has next placed) has new
    × SetsNext (stem_at p placed) (given_number has next (stem_at p placed)) next later
