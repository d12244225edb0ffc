use Rattle.std.proofs.Common.{◌≡◌, ◌++◌, drop}
use Rattle.std.specs.List.{flat_map}
use Rattle.backends.specs.Joined.{joined_nets}
use Rattle.backends.specs.TangoText.{net_block}
use Rattle.backends.proofs.tango_text.put_nets.Given as goal

abbrev pub invariant-loop-net : goal.invariant-loop-net
invariant-loop-net l = l.out.items ++ flat_map net_block (joined_nets (drop l.net-index l.nets)) ≡ l.fn.out.items ++ flat_map net_block (joined_nets l.nets)
