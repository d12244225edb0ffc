-- The ids of a project's objects, as one thing is put in.
use Rattle.std.specs.Prelude.{◌≡◌, ℕ, List}
use Rattle.std.specs.FinMap.{FinMap, insert, keys, remove}
use Rattle.std.specs.Ordering.{nat_cmp}
use Rattle.project_model.specs.declared.change.Placed.{Placed}
use Rattle.project_model.specs.Items.{Item}
use Rattle.project_model.specs.Projects.{ProjectData}
use Rattle.project_model.specs.Changes.{put_one}

-- where ids were those of some objects, they become those with the object
abbrev pub FollowsPut : ℕ → List ℕ → List ℕ → Type 0
FollowsPut id old new =
    (objects : FinMap nat_cmp Placed) (placed : Placed)
    → old ≡ keys objects → new ≡ keys (insert objects id placed)

-- those without it
abbrev pub FollowsRemove : ℕ → List ℕ → List ℕ → Type 0
FollowsRemove id old new =
    (objects : FinMap nat_cmp Placed) → old ≡ keys objects → new ≡ keys (remove objects id)

-- those after an item
abbrev pub FollowsItem : Item → List ℕ → List ℕ → Type 0
FollowsItem item old new =
    (p : ProjectData) → old ≡ keys p.objects → new ≡ keys (put_one p item.0 item.1).objects
