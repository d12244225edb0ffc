use Rattle.std.proofs.Common.{◌≡◌, take}
use Rattle.net_names.specs.steps.Pins.{ranks_of_pins}
use Rattle.net_names.proofs.class_pins.ranks_of_pins.Given as goal

abbrev pub invariant-loop-at : goal.invariant-loop-at
invariant-loop-at l = l.found.items ≡ ranks_of_pins l.ranks (take l.at l.members)
