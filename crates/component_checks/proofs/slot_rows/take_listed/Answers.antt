use Rattle.std.proofs.Common.{◌∙◌, Option, ap}
use Rattle.std.specs.Option.{unwrap_or}
use Rattle.component_checks.specs.declared.slot_rows.PackageSlots.{PackageSlots}
use Rattle.component_checks.proofs.SlotLemmas.{takes_in}
use Rattle.component_checks.proofs.slot_rows.take_listed.Goals as goal

pub returns : goal.returns
returns c =
    let none = c.no_slots.result in
    let known = c.unwrap_or-known.ensures ∙ ap (λ (row : Option PackageSlots). unwrap_or row none) c.remove.ensures.value in
    let back = rw c.in_ok-clone.ensures.cases at c.in_ok-insert.ensures.updates in
    takes_in c.args.refdes.now c.args.component.now c.args.rows.now c.remove.new.self c.insert.new.self none c.unwrap_or-known.result c.in_ok-slots.slots
    known c.no_slots.ensures.count c.no_slots.ensures.used c.in_ok-slots.ensures.count c.in_ok-slots.ensures.used c.remove.ensures.updates back
