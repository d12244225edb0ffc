-- The size of a group (own).
use Rattle.std.specs.Prelude.{◌≡◌, ◌==◌, ℕ, List, slice_index}
use Rattle.std.specs.List.{count_by}
use Rattle.sheet_groups.specs.Conductors.{SheetConductor}
use Rattle.sheet_groups.specs.Groups.{AreLabels}

-- how many conductors the group of the one at a place has
pub record IsGroupSize (conductors : List SheetConductor) (place size : ℕ) : Type 0 where
  pub labels : List ℕ
  pub are_labels : AreLabels conductors labels
  pub counted : size ≡ count_by (λ label. label == slice_index labels place) labels
