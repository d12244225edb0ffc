use Rattle.std.proofs.Common.{take}
use Rattle.std.specs.List.{list_any}
use Rattle.hierarchy.specs.Ways.{is_on}
use Rattle.hierarchy.specs.steps.Widening.{IsMarked}
use Rattle.hierarchy.proofs.lost.mark_ways.Given as goal

abbrev pub invariant-loop-way : goal.invariant-loop-way
invariant-loop-way l = IsMarked l.fn.reached l.reached (λ place. list_any (λ w. is_on w place) (take l.way-index l.ways))
