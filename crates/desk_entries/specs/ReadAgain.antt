-- Objects whose texts read as what they were written of (own).
use Rattle.std.specs.Prelude.{◌≡◌, ◌≤◌, ℕ, length, Some, Ok}
use Rattle.std.specs.FinMap as finite
use Rattle.geda_grammar.specs.Canonical.{object_text}
use Rattle.geda_model.specs.Limits.{most_file_bytes}
use Rattle.project_model.specs.Projects.{ProjectData}
use Rattle.project_model.specs.declared.change.Placed.{Placed}
use Rattle.edit_entries.specs.Entries.{IsU32}
use Rattle.edit_rules.specs.Values.{object_value}

-- the text of each object of a project reads as that object, where it is no longer than a file may
-- be
abbrev pub AreReadAgain : ProjectData → Type 0
AreReadAgain p = (id : ℕ) (placed : Placed) →
    IsU32 id → finite.get p.objects id ≡ Some placed →
    length (object_text placed.object) ≤ most_file_bytes →
    object_value (object_text placed.object) ≡ Ok placed.object
