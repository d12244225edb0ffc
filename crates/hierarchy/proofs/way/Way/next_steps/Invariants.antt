use Rattle.std.proofs.Common.{◌≡◌, ◌++◌, drop, flat_map}
use Rattle.hierarchy.specs.Ways.{component_steps, next_steps}
use Rattle.hierarchy.proofs.way.Way.next_steps.Given as goal

abbrev pub invariant-loop-component : goal.invariant-loop-component
invariant-loop-component l = l.steps.items ++ flat_map (component_steps l.self) (drop l.component-index l.component-items)
    ≡ next_steps l.sheets l.self
