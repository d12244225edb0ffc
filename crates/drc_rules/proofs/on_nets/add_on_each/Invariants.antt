use Rattle.std.proofs.Common.{◌≡◌, ◌++◌, drop}
use Rattle.std.specs.List.{flat_map}
use Rattle.drc_rules.specs.OnNets.{found_on_net, found_on_nets}
use Rattle.drc_rules.proofs.on_nets.add_on_each.Given as goal

abbrev pub invariant-loop-net : goal.invariant-loop-net
invariant-loop-net l =
    l.found.items ++ flat_map (found_on_net l.matrix l.nets) (drop l.net-index l.nets)
    ≡ l.fn.found.items ++ found_on_nets l.matrix l.nets
