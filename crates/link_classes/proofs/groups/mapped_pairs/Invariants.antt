use Rattle.std.proofs.Common.{take}
use Rattle.flat_rows.specs.Keyed.{keyed_from}
use Rattle.link_classes.specs.InstanceGroups.{groups_by}
use Rattle.link_classes.specs.steps.FirstPlaces.{TiesKeys}
use Rattle.link_classes.specs.steps.GroupPlaces.{group_place, groups_of}
use Rattle.link_classes.proofs.groups.mapped_pairs.Given as goal

abbrev pub invariant-loop-place : goal.invariant-loop-place
invariant-loop-place l =
    TiesKeys (group_place l.first) l.pairs.items (keyed_from (groups_of (groups_by l.groups)) 0 (take l.place l.fn.flat.conductors))
