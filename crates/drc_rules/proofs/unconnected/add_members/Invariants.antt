use Rattle.std.proofs.Common.{◌≡◌, ◌++◌, drop}
use Rattle.std.specs.List.{flat_map}
use Rattle.drc_rules.specs.OnNets.{unconnected_member}
use Rattle.drc_rules.proofs.unconnected.add_members.Given as goal

abbrev pub invariant-loop-member : goal.invariant-loop-member
invariant-loop-member l =
    l.found.items ++ flat_map (unconnected_member l.matrix l.net) (drop l.member-index l.members)
    ≡ l.fn.found.items ++ flat_map (unconnected_member l.matrix l.net) l.members
