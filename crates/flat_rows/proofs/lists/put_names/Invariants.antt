use Rattle.std.proofs.Common.{◌≡◌, ◌++◌}
use Rattle.std.specs.Vec.Iter.{into_iter_items}
use Rattle.flat_rows.specs.Keyed.{keyed_at}
use Rattle.flat_rows.proofs.lists.put_names.Given as goal

abbrev pub invariant-loop-name : goal.invariant-loop-name
invariant-loop-name l = l.names.items ++ keyed_at l.place (into_iter_items l.name-iterator) ≡ l.fn.names.items ++ keyed_at l.place l.fn.more
