use Rattle.std.proofs.Common.{◌≡◌, ◌++◌, drop}
use Rattle.std.specs.List.{flat_map}
use Rattle.geda_defs.specs.Lines.{ended}
use Rattle.spice_out.specs.SpiceText.{node_comment}
use Rattle.spice_out.proofs.writing.put_nets.Given as goal

abbrev pub invariant-loop-net : goal.invariant-loop-net
invariant-loop-net l =
    l.out.items ++ flat_map (λ n. ended (node_comment n)) (drop l.net-index l.nets) ≡ l.fn.out.items ++ flat_map (λ n. ended (node_comment n)) l.nets
