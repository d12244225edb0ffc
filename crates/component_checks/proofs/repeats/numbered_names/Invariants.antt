use Rattle.std.proofs.Common.{◌≡◌, ◌++◌, drop}
use Rattle.std.specs.List.{filter_map}
use Rattle.component_checks.specs.steps.Repeats.{numbered_name}
use Rattle.component_checks.proofs.repeats.numbered_names.Given as goal

abbrev pub invariant-loop-component : goal.invariant-loop-component
invariant-loop-component l =
    l.names.items ++ filter_map numbered_name (drop l.component-index l.components) ≡ filter_map numbered_name l.components
