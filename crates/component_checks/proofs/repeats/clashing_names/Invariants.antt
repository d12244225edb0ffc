use Rattle.std.proofs.Common.{◌≡◌, ◌++◌, drop}
use Rattle.std.specs.List.{filter_map}
use Rattle.component_checks.specs.steps.Repeats.{clashing_name}
use Rattle.component_checks.proofs.repeats.clashing_names.Given as goal

abbrev pub invariant-loop-component : goal.invariant-loop-component
invariant-loop-component l =
    l.names.items ++ filter_map (clashing_name l.twice) (drop l.component-index l.components)
    ≡ filter_map (clashing_name l.twice) l.components
