use Rattle.std.proofs.Common.{◌≤◌, ◌+◌, ◌-◌, length}
use Rattle.std.specs.FinMap.{len}
use Rattle.net_flood.specs.steps.Search.{IsRacing, passing}
use Rattle.net_flood.proofs.search.race.Given as goal

abbrev pub invariant-loop-key : goal.invariant-loop-key
invariant-loop-key l =
    IsRacing (passing l.passed l.fn.index.conductors) l.fn.index l.index l.first l.second l.fn.found.entries l.found.entries
    (l.fn.index.asked + (length l.fn.first.waiting.items + length l.fn.second.waiting.items))
    × (l.fn.index.asked ≤ l.index.asked)

abbrev pub decreases-loop-key : goal.decreases-loop-key
decreases-loop-key l =
    (len (passing l.passed l.fn.index.conductors) - length l.found.entries) + (length l.first.waiting.items + length l.second.waiting.items)
