use Rattle.std.proofs.Common.{◌≡◌, ◌++◌}
use Rattle.sym_check.proofs.check.listed.Given as goal

abbrev pub invariant-loop-finding : goal.invariant-loop-finding
invariant-loop-finding l = l.list.items ++ l.finding-iterator ≡ l.fn.set.keys
