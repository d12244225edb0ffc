use Rattle.std.proofs.Common.{◌≡◌, ◌++◌, drop}
use Rattle.drc_rules.specs.steps.Pins.{pins_on_two_by}
use Rattle.drc_rules.proofs.pins_on_two.add_pins_on_two.Given as goal

abbrev pub invariant-loop-member : goal.invariant-loop-member
invariant-loop-member l =
    l.found.items ++ pins_on_two_by l.on_two (drop l.member-index l.members)
    ≡ l.fn.found.items ++ pins_on_two_by l.on_two l.members
