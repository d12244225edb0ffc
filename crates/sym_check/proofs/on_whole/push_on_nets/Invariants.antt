use Rattle.std.proofs.Common.{◌≡◌, ◌++◌, drop}
use Rattle.std.specs.List.{flat_map}
use Rattle.sym_check.specs.Findings.{bad_net_value}
use Rattle.sym_check.proofs.on_whole.push_on_nets.Given as goal

abbrev pub invariant-loop-value : goal.invariant-loop-value
invariant-loop-value l =
    l.found.items ++ flat_map bad_net_value (drop l.value-index l.nets) ≡ l.fn.found.items ++ flat_map bad_net_value l.nets
