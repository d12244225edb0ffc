use Rattle.std.proofs.Common.{take}
use Rattle.gaf_work.specs.Live.{Follows}
use Rattle.gaf_work.proofs.live.follow_items.Given as goal

abbrev pub invariant-loop-item : goal.invariant-loop-item
invariant-loop-item l = Follows (take l.item-index l.items) l.fn.ids.items l.ids.items
