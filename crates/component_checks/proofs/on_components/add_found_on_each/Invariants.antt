use Rattle.std.proofs.Common.{◌≡◌, ◌++◌, drop}
use Rattle.std.specs.List.{flat_map}
use Rattle.component_checks.specs.steps.FoundBy.{found_by}
use Rattle.component_checks.proofs.on_components.add_found_on_each.Given as goal

abbrev pub invariant-loop-component : goal.invariant-loop-component
invariant-loop-component l =
    l.found.items ++ flat_map (found_by l.repeats) (drop l.component-index l.components)
    ≡ l.fn.found.items ++ flat_map (found_by l.repeats) l.components
