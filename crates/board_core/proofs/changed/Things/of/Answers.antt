use Rattle.std.proofs.Common.{arith}
use Rattle.std.specs.HashSet.{contains_text}
use Rattle.board_core.specs.steps.ChangedThings.{has_id}
use Rattle.board_core.proofs.ThingLemmas.{things_more}
use Rattle.board_core.proofs.changed.Things.of.Goals as goal

pub loop-item-preserved : goal.loop-item-preserved
loop-item-preserved c =
    things_more c.args.items.now c.loop-item.item-index c.item-item.result (has_id c.loop-item.ids) (has_id c.add_thing.new.ids) (contains_text c.loop-item.symbols) (contains_text c.add_thing.new.symbols)
    (omega arith) c.item-item.is c.loop-item.invariant c.in_ok-add_thing.ensures.ids c.in_ok-add_thing.ensures.symbols
