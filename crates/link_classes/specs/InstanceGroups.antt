-- Groups of conductors in each instance: those that a chain of touching ones joins (own).
use Rattle.std.specs.Prelude.{◌≡◌, ℕ, true, List, Option, Some, is_some}
use Rattle.std.specs.BTreeMap.{is_at}
use Rattle.std.specs.Map.{lookup}
use Rattle.geda_defs.specs.Classes.{Joined}
use Rattle.geda_geom.specs.declared.conductor.Key.{Key}
use Rattle.flat_rows.specs.Conductors.{FlatConductor}
use Rattle.geda_geom.specs.Keys.{by_key}
use Rattle.link_classes.specs.Links.{AreTouching, AtPlaces}

-- the key that stands for the group of each key that has one
abbrev pub Groups : Type 0
Groups = Key → Option Key

-- the groups that rows say, each of a key and its group
abbrev pub groups_by : List (Key × Key) → Groups
groups_by rows key = lookup (is_at (by_key key)) rows

-- it is drawn, and in this group
pub record IsIn (groups : Groups) (f : FlatConductor) (group : Key) : Type 0 where
  pub drawn : is_some f.shape ≡ true
  pub has : groups f.key ≡ Some group

-- they stand in one instance, and in one group
pub record AreGrouped (groups : Groups) (f g : FlatConductor) : Type 0 where
  pub together : f.instance ≡ g.instance
  pub group : Key
  pub first : IsIn groups f group
  pub second : IsIn groups g group

-- what stands in one instance and in one group is joined by touching there, and what touches there
-- stands in one group
pub record AreInstanceGroups (conductors : List FlatConductor) (groups : Groups) : Type 0 where
  pub sound : (i j : ℕ) → AtPlaces (AreGrouped groups) conductors i j
      → Joined (AtPlaces AreTouching conductors) i j
  pub full : (i j : ℕ) → AtPlaces AreTouching conductors i j
      → AtPlaces (AreGrouped groups) conductors i j
