use Rattle.std.proofs.Common.{◌≤◌, take}
use Rattle.net_flood.specs.steps.Search.{IsSearching, passing}
use Rattle.net_flood.proofs.search.search_from.Given as goal

abbrev pub invariant-loop-start : goal.invariant-loop-start
invariant-loop-start l =
    IsSearching (passing l.passed l.fn.index.conductors) l.fn.index l.index l.near (take l.start-index l.near) l.last l.found.entries
    × (l.fn.index.asked ≤ l.index.asked)
