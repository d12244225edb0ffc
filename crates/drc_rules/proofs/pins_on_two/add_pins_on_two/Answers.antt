use Rattle.std.proofs.Common.{refl}
use Rattle.drc_rules.proofs.PinLemmas.{none_on_two}
use Rattle.drc_rules.proofs.pins_on_two.add_pins_on_two.Goals as goal

pub returns-then-is_empty : goal.returns-then-is_empty
returns-then-is_empty c = none_on_two c.args.found.now.items c.args.on_two.now c.args.members.now (c.if-is_empty.ensures.0 refl)
