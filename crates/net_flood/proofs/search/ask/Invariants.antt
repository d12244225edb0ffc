use Rattle.std.proofs.Common.{take}
use Rattle.net_flood.specs.steps.Search.{IsAsking}
use Rattle.net_flood.proofs.search.ask.Given as goal

abbrev pub invariant-loop-other : goal.invariant-loop-other
invariant-loop-other l = IsAsking l.passed (take l.other-index l.other-items) l.met l.fn.search l.search l.fn.found.entries l.found.entries
