use Rattle.std.proofs.Common.{◌≡◌, map, take}
use Rattle.net_names.specs.steps.Pins.{pin_under}
use Rattle.net_names.proofs.class_pins.class_pins.Given as goal

abbrev pub invariant-loop-at : goal.invariant-loop-at
invariant-loop-at l = l.pins.items ≡ map (pin_under l.refdeses) (take l.at l.members)
