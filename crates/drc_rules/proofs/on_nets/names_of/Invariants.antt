use Rattle.std.proofs.Common.{◌≡◌, ◌++◌, drop}
use Rattle.std.specs.Prelude.{map}
use Rattle.drc_rules.specs.OnNets.{names_of_nets}
use Rattle.drc_rules.proofs.on_nets.names_of.Given as goal

abbrev pub invariant-loop-net : goal.invariant-loop-net
invariant-loop-net l =
    map (λ n. n.now) l.names.items ++ names_of_nets (drop l.net-index l.nets) ≡ names_of_nets l.nets
