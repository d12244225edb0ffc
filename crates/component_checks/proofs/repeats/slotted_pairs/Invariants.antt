use Rattle.std.proofs.Common.{◌≡◌, ◌++◌, drop}
use Rattle.std.specs.List.{filter_map}
use Rattle.component_checks.specs.steps.Repeats.{slotted_pair}
use Rattle.component_checks.proofs.repeats.slotted_pairs.Given as goal

abbrev pub invariant-loop-component : goal.invariant-loop-component
invariant-loop-component l =
    l.pairs.items ++ filter_map slotted_pair (drop l.component-index l.components) ≡ filter_map slotted_pair l.components
