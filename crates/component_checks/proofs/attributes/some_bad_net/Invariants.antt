use Rattle.std.proofs.Common.{◌≡◌, drop}
use Rattle.std.specs.List.{list_any}
use Rattle.component_checks.specs.CheckedComponents.{is_bad_net}
use Rattle.component_checks.proofs.attributes.some_bad_net.Given as goal

abbrev pub invariant-loop-value : goal.invariant-loop-value
invariant-loop-value l = list_any is_bad_net (drop l.value-index l.values) ≡ list_any is_bad_net l.values
