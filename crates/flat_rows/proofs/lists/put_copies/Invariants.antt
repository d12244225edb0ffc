use Rattle.std.proofs.Common.{◌≡◌, ◌++◌, drop}
use Rattle.flat_rows.specs.Keyed.{keyed_at}
use Rattle.flat_rows.proofs.lists.put_copies.Given as goal

abbrev pub invariant-loop-name : goal.invariant-loop-name
invariant-loop-name l = l.names.items ++ keyed_at l.place (drop l.name-index l.more) ≡ l.fn.names.items ++ keyed_at l.place l.more
