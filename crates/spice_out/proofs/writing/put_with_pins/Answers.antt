use Rattle.std.proofs.Common.{◌≡◌, ◌∙◌, ℕ, Option, None, Some, length, rules, sym, ap}
use Rattle.spice_out.specs.Cards.{pin_count}
use Rattle.spice_out.specs.Faults.{clashes, fault_with}
use Rattle.spice_out.specs.Pins.{numbers_of}
use Rattle.spice_out.proofs.writing.put_with_pins.Goals as goal

pub returns-clause-fault : goal.returns-clause-fault
returns-clause-fault c = λ earlier has.
    let part = c.args.part.now in
    let pins = c.args.pins.now in
    let count : pin_count part.refdes (length (numbers_of pins)) ≡ Some c.in-Some.count = rw (← c.in_ok-firsts.ensures.count) (search rules) in
    let none : c.in_ok-fault.field-0 ≡ None = search rules in
    ap (λ (n : Option ℕ). fault_with (clashes earlier part) pins part n) count ∙ sym (c.in_ok-fault.ensures.fault earlier has) ∙ none
