-- Steps of the code; no public clause cites them.
-- Groups of touching conductors, with their instance, as keys of a map (own).
use Rattle.std.specs.Prelude.{ℕ, ◌==◌, Bool, ◌&&◌, cond, List, Option, None, is_some}
use Rattle.std.specs.HashMap.{HashMap, get}
use Rattle.std.specs.Option.{option_map, option_to_list}
use Rattle.geda_geom.specs.declared.conductor.Key.{Key}
use Rattle.flat_rows.specs.Conductors.{FlatConductor}
use Rattle.flat_rows.specs.Rows.{row_of}
use Rattle.flat_rows.specs.declared.rows.FlatRow.{FlatRow}
use Rattle.link_classes.specs.InstanceGroups.{Groups}

-- an instance, and the key that stands for a group in it
abbrev pub InstanceGroup : Type 0
InstanceGroup = ℕ × Key

-- they are one
abbrev pub same_group : InstanceGroup → InstanceGroup → Bool
same_group a b = (a.0 == b.0) && ((a.1.id == b.1.id) && (a.1.place == b.1.place))

-- the instance and the group of the conductor of a row, if it is drawn and has a group
abbrev pub row_group : Groups → FlatRow → Option InstanceGroup
row_group groups row =
    cond (is_some row.shape) (option_map (λ group. (row.instance, group)) (groups row.key)) None

-- those of a conductor
abbrev pub group_of : Groups → FlatConductor → Option InstanceGroup
group_of groups f = row_group groups (row_of f)

-- them as a list of one, or none
abbrev pub groups_of : Groups → FlatConductor → List InstanceGroup
groups_of groups f = option_to_list (group_of groups f)

-- the place that a map has for a group
abbrev pub group_place : {S : Type 0} → HashMap InstanceGroup ℕ S → InstanceGroup → Option ℕ
group_place first = get same_group first
