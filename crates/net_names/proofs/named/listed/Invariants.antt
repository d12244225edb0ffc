use Rattle.std.proofs.Common.{◌≡◌, ◌++◌, length}
use Rattle.std.specs.Vec.Iter.{into_iter_items, into_iter_len}
use Rattle.net_names.proofs.named.listed.Given as goal

abbrev pub invariant-loop-named : goal.invariant-loop-named
invariant-loop-named l = record {
  len : into_iter_len l.named-iterator ≡ length (into_iter_items l.named-iterator);
  nets : l.nets.items ++ into_iter_items l.named-iterator ≡ l.fn.named.items;
}
