use Rattle.std.proofs.Common.{◌≡◌, ◌++◌, drop, map}
use Rattle.sym_check.specs.Findings.{pin_numbers_of}
use Rattle.sym_check.specs.steps.FoundBy.{key_of}
use Rattle.sym_check.proofs.repeats.number_keys.Given as goal

abbrev pub invariant-loop-pin : goal.invariant-loop-pin
invariant-loop-pin l =
    l.keys.items ++ map key_of (pin_numbers_of (drop l.pin-index l.pins)) ≡ map key_of (pin_numbers_of l.pins)
