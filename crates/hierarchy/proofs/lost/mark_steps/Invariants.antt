use Rattle.std.proofs.Common.{◌==◌, take}
use Rattle.std.specs.List.{list_any}
use Rattle.hierarchy.specs.steps.Widening.{IsMarked}
use Rattle.hierarchy.proofs.lost.mark_steps.Given as goal

abbrev pub invariant-loop-step : goal.invariant-loop-step
invariant-loop-step l = IsMarked l.fn.reached l.reached (λ place. list_any (λ s. s.sheet == place) (take l.step-index l.steps))
