use Rattle.std.proofs.Common.{◌≡◌, true, rules}
use Rattle.component_checks.specs.steps.SlotRows.{has_no_slots}
use Rattle.component_checks.proofs.SlotLemmas.{takes_none}
use Rattle.component_checks.proofs.slot_rows.take_component.Goals as goal

pub returns-then-has_no_slots : goal.returns-then-has_no_slots
returns-then-has_no_slots c =
    let none : has_no_slots c.args.component.now ≡ true = search rules in
    takes_none c.args.component.now c.args.rows.now none
