use Rattle.std.proofs.Common.{◌≡◌, ◌≤◌, ◌+◌, ◌++◌, drop, length}
use Rattle.spice_out.specs.Nodes.{noded_from, noded_nets}
use Rattle.spice_out.proofs.net_nodes.noded_nets.Given as goal

abbrev pub invariant-loop-net : goal.invariant-loop-net
invariant-loop-net l = record {
  nets : l.noded.items ++ noded_from l.net-index l.next (drop l.net-index l.nets) ≡ noded_nets l.nets;
  count : length l.noded.items ≡ l.net-index;
  small : l.next ≤ l.net-index + 1;
}
