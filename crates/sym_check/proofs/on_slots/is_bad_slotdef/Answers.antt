use Rattle.std.proofs.Common.{◌≡◌, ◌∙◌, true, not, nat_eq, Some, [], ◌∷◌, rules, sym}
use Rattle.std.specs.Option.{option_copied}
use Rattle.attr_rules.specs.Slots.{slot_pins}
use Rattle.sym_check.specs.Slotdefs.{slotdef_head}
use Rattle.sym_check.proofs.SlotdefLemmas.{is_other, slotdef_is}
use Rattle.sym_check.proofs.on_slots.is_bad_slotdef.Goals as goal

pub returns-in-Ok : goal.returns-in-Ok
returns-in-Ok c =
    let some : slotdef_head c.args.slotdef.now ≡ Some c.in-Some.head.now = search rules in
    let given : is_other c.args.pins (slot_pins c.in-Some.head.now (option_copied c.args.numslots) (c.args.slotdef.now ∷ [])) ≡ not (nat_eq c.len.result c.args.pins) = search rules in
    sym (slotdef_is (option_copied c.args.numslots) c.args.pins c.args.slotdef.now c.in-Some.head.now some ∙ given)

pub returns-in-Err : goal.returns-in-Err
returns-in-Err c =
    let some : slotdef_head c.args.slotdef.now ≡ Some c.in-Some.head.now = search rules in
    let given : is_other c.args.pins (slot_pins c.in-Some.head.now (option_copied c.args.numslots) (c.args.slotdef.now ∷ [])) ≡ true = search rules in
    sym (slotdef_is (option_copied c.args.numslots) c.args.pins c.args.slotdef.now c.in-Some.head.now some ∙ given)
