use Rattle.std.proofs.Common.{◌≡◌, ◌++◌, drop}
use Rattle.std.specs.List.{filter_map}
use Rattle.component_checks.specs.steps.ToldPins.{unknown_number}
use Rattle.component_checks.proofs.drawn_pins.unknown_in_plan.Given as goal

abbrev pub invariant-loop-pin : goal.invariant-loop-pin
invariant-loop-pin l =
    l.numbers.items ++ filter_map unknown_number (drop l.pin-index l.pins) ≡ filter_map unknown_number l.pins
