-- Steps of the code; no public clause cites them.
-- The ids of each sheet, gathered in one pass over all objects, and the objects of an instance.
use Rattle.std.specs.Prelude.{◌≡◌, ℕ, Bool, true, if◌then◌else◌, List, [], ◌∷◌, ◌++◌, Option, Some}
use Rattle.std.specs.declared.cmp.Ordering.{Ordering}
use Rattle.std.specs.List.{flat_map}
use Rattle.std.specs.Ordering.{is_lt}
use Rattle.std.specs.Str.{bytes_eq}
use Rattle.project_model.specs.declared.change.Placed.{Placed}
use Rattle.project_model.specs.Projects.{is_on}
use Rattle.hierarchy.specs.declared.instances.Instance.{Instance}
use Rattle.instance_objects.specs.Occurrences.{OccurrenceData}
use Rattle.instance_objects.specs.SheetIds.{IdsBySheet, ids_at}

-- the id of an object, if that stands on the sheet
abbrev pub id_on : List ℕ → ℕ × Placed → List ℕ
id_on name row = if is_on name row then row.0 ∷ [] else []

-- the ids of those objects that stand on a sheet
abbrev pub ids_in : List (ℕ × Placed) → List ℕ → List ℕ
ids_in rows name = flat_map (id_on name) rows

-- ids that are gathered for a sheet, as ids of the sheet of this name
abbrev pub held : List ℕ → List ℕ → List ℕ → List ℕ
held sheet ids name = if bytes_eq sheet name then ids else []

-- of some rows the first, all on a sheet, have been put behind the ids gathered for it, and these
-- are left
abbrev pub PutsRun :
    List ℕ → List ℕ → List ℕ → List (ℕ × Placed) → List (ℕ × Placed) → Type 0
PutsRun sheet old new rows rest = (name : List ℕ)
    → held sheet new name ++ ids_in rest name ≡ held sheet old name ++ ids_in rows name

-- the same of a table
abbrev pub AddsRun :
    IdsBySheet → IdsBySheet → List (ℕ × Placed) → List (ℕ × Placed) → Type 0
AddsRun old new rows rest = (name : List ℕ)
    → ids_at new name ++ ids_in rest name ≡ ids_at old name ++ ids_in rows name

-- the table has the ids of these objects
abbrev pub AreIdsOf : List (ℕ × Placed) → IdsBySheet → Type 0
AreIdsOf rows table = (name : List ℕ) → ids_at table name ≡ ids_in rows name

-- one comes before another in an order, if there are both
abbrev pub comes_before : {K : Type 0} → (K → K → Ordering) → Option K → Option K → Bool
comes_before cmp (Some a) (Some b) = is_lt (cmp a b)
comes_before cmp a b = true

-- an object in the instance at a place
abbrev pub occurrence : ℕ → Instance → ℕ → OccurrenceData
occurrence place i id = record { route = i.route; instance = place; id = id }
