use Rattle.std.proofs.Common.{take}
use Rattle.spice_out.specs.steps.FirstPins.{AreFirsts}
use Rattle.spice_out.proofs.package_pins.first_pins.Given as goal

abbrev pub invariant-loop-pin : goal.invariant-loop-pin
invariant-loop-pin l = AreFirsts (take l.pin-index l.pins) l.firsts
