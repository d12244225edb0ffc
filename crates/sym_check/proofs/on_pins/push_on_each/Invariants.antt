use Rattle.std.proofs.Common.{◌≡◌, ◌++◌, drop}
use Rattle.std.specs.List.{flat_map}
use Rattle.sym_check.specs.steps.FoundBy.{on_pin_by}
use Rattle.sym_check.proofs.on_pins.push_on_each.Given as goal

abbrev pub invariant-loop-pin : goal.invariant-loop-pin
invariant-loop-pin l =
    l.found.items ++ flat_map (on_pin_by l.numbers l.seqs) (drop l.pin-index l.pins)
    ≡ l.fn.found.items ++ flat_map (on_pin_by l.numbers l.seqs) l.pins
