-- The ids of the objects of a project, as a change is put into it (own).
use Rattle.std.specs.Prelude.{◌≡◌, ℕ, List}
use Rattle.std.specs.FinMap.{keys}
use Rattle.project_model.specs.Items.{Item}
use Rattle.project_model.specs.Projects.{ProjectData}
use Rattle.project_model.specs.Changes.{put}

-- where ids were those of a project, they become those of the project after the change
abbrev pub Follows : List Item → List ℕ → List ℕ → Type 0
Follows items old new =
    (p : ProjectData) → old ≡ keys p.objects → new ≡ keys (put p items).objects
