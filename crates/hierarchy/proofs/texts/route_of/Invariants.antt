use Rattle.std.proofs.Common.{◌≡◌, map, take}
use Rattle.hierarchy.proofs.texts.route_of.Given as goal

abbrev pub invariant-loop-step : goal.invariant-loop-step
invariant-loop-step l = l.route.items ≡ map (λ s. s.id) (take l.step-index l.steps)
