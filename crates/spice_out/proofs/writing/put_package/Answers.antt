use Rattle.std.proofs.Common.{◌≡◌, ◌∙◌, ◌++◌, [], List, OnOk, rules, subst}
use Rattle.geda_defs.specs.Lines.{ended}
use Rattle.spice_out.specs.Faults.{clashes, fault_by}
use Rattle.spice_out.specs.Pins.{PinData}
use Rattle.spice_out.specs.SpiceText.{line_by}
use Rattle.spice_out.specs.steps.Judging.{Judges}
use Rattle.spice_out.specs.steps.PinRows.{pins_at}
use Rattle.spice_out.proofs.writing.put_package.Goals as goal

pub returns-in-Some-clause-text : goal.returns-in-Some-clause-text
returns-in-Some-clause-text c =
    let part = c.args.part.now in
    let row : c.as_slice.result.now ≡ pins_at c.args.rows.now part.refdes = search rules in
    subst (λ (pins : List PinData). OnOk c.put_with_pins.result (c.put_with_pins.new.out.items ≡ c.args.out.now.items ++ ended (line_by pins part)))
    (row ∙ c.requires.rows part.refdes) c.put_with_pins.ensures.text

pub returns-in-Some-clause-fault : goal.returns-in-Some-clause-fault
returns-in-Some-clause-fault c = λ earlier has.
    let part = c.args.part.now in
    let row : c.as_slice.result.now ≡ pins_at c.args.rows.now part.refdes = search rules in
    subst (λ (pins : List PinData). Judges c.put_with_pins.result (fault_by (clashes earlier part) pins part))
    (row ∙ c.requires.rows part.refdes) (c.put_with_pins.ensures.fault earlier has)

pub returns-in-None-clause-text : goal.returns-in-None-clause-text
returns-in-None-clause-text c =
    let part = c.args.part.now in
    let none : ◌≡◌ {A = List PinData} [] (pins_at c.args.rows.now part.refdes) = search rules in
    subst (λ (pins : List PinData). OnOk c.put_with_pins-in-None.result (c.put_with_pins-in-None.new.out.items ≡ c.args.out.now.items ++ ended (line_by pins part)))
    (none ∙ c.requires.rows part.refdes) c.put_with_pins-in-None.ensures.text

pub returns-in-None-clause-fault : goal.returns-in-None-clause-fault
returns-in-None-clause-fault c = λ earlier has.
    let part = c.args.part.now in
    let none : ◌≡◌ {A = List PinData} [] (pins_at c.args.rows.now part.refdes) = search rules in
    subst (λ (pins : List PinData). Judges c.put_with_pins-in-None.result (fault_by (clashes earlier part) pins part))
    (none ∙ c.requires.rows part.refdes) (c.put_with_pins-in-None.ensures.fault earlier has)
