use Rattle.std.proofs.Common.{◌≡◌, ◌++◌, drop}
use Rattle.std.specs.List.{flat_map}
use Rattle.backends.specs.Joined.{joined_nets}
use Rattle.backends.specs.ListText.{net_line_text}
use Rattle.backends.proofs.pcb_text.put_nets.Given as goal

abbrev pub invariant-loop-net : goal.invariant-loop-net
invariant-loop-net l = l.out.items ++ flat_map net_line_text (joined_nets (drop l.net-index l.nets)) ≡ l.fn.out.items ++ flat_map net_line_text (joined_nets l.nets)
