use Rattle.std.proofs.Common.{◌≡◌, ◌++◌}
use Rattle.std.specs.Vec.Iter.{into_iter_items}
use Rattle.flat_rows.specs.steps.Lists.{keys_behind}
use Rattle.flat_rows.proofs.lists.put_behind.Given as goal

abbrev pub invariant-loop-value : goal.invariant-loop-value
invariant-loop-value g l = l.list.items ++ keys_behind l.first (into_iter_items l.value-iterator) ≡ l.fn.list.items ++ keys_behind l.first l.fn.more.items
