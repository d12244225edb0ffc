-- Objects in their ranges.
use Rattle.std.specs.Prelude.{◌≡◌, ℕ, Some}
use Rattle.std.specs.FinMap as finite
use Rattle.geda_model.specs.Sheets.{ObjectIsInRange}
use Rattle.project_model.specs.Projects.{ProjectData}
use Rattle.project_model.specs.declared.change.Placed.{Placed}
use Rattle.edit_entries.specs.Entries.{IsU32}

-- the object of an id is in its ranges, if there is one
abbrev pub IsInRange : ProjectData → ℕ → Type 0
IsInRange p id = (placed : Placed) →
    finite.get p.objects id ≡ Some placed → ObjectIsInRange placed.object

-- each object is: so a project's type keeps it
abbrev pub AreInRange : ProjectData → Type 0
AreInRange p = (id : ℕ) → IsU32 id → IsInRange p id
