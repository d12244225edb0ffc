use Rattle.std.proofs.Common.{take}
use Rattle.net_flood.specs.steps.Search.{IsMoving}
use Rattle.net_flood.proofs.search.put_under.Given as goal

abbrev pub invariant-loop-key : goal.invariant-loop-key
invariant-loop-key l = IsMoving l.fn.head (take l.key-index l.keys) l.fn.found.entries l.found.entries
