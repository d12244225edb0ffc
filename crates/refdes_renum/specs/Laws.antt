-- What holds of the change that gives numbers (own).
use Rattle.std.specs.Prelude.{◌≡◌, ℕ, ◌≤◌, ◌<◌, true, false, List, IsSome, Some}
use Rattle.std.specs.FinMap.{get}
use Rattle.project_model.specs.declared.change.Placed.{Placed}
use Rattle.project_model.specs.declared.change.Thing.TheVariants as things
use Rattle.project_model.specs.declared.change.Value.TheVariants as values
use Rattle.project_model.specs.Changes.{IsIdInRange}
use Rattle.project_model.specs.Items.{Item}
use Rattle.project_model.specs.Projects.{ProjectData}
use Rattle.refdes_renum.specs.Numbers.{is_taken}

-- the item gives an object of the project a new value in the same sheet
pub record IsReplaced (p : ProjectData) (item : Item) : Type 0 where
  pub id : ℕ
  pub old : Placed
  pub new : Placed
  pub is : item ≡ (things.Object id, Some (values.Object new))
  pub there : get p.objects id ≡ Some old
  pub sheet : new.sheet ≡ old.sheet

-- the id of each object of the project leaves room for the next one
abbrev pub IdsAreInRange : ProjectData → Type 0
IdsAreInRange p = (id : ℕ) → IsSome (get p.objects id) → IsIdInRange (things.Object id)

-- the text with a number from 1 on is not in use, and those with the lower ones from 1 on are
pub record IsLeastFree (used : List (List ℕ)) (stem : List ℕ) (n : ℕ) : Type 0 where
  pub from_one : 1 ≤ n
  pub free : is_taken used stem n ≡ false
  pub taken : (m : ℕ) → 1 ≤ m → m < n → is_taken used stem m ≡ true
