use Rattle.std.proofs.Common.{take}
use Rattle.std.specs.HashSet.{contains_text}
use Rattle.board_core.specs.steps.ChangedThings.{HasThings, has_id}
use Rattle.board_core.proofs.changed.Things.of.Given as goal

abbrev pub invariant-loop-item : goal.invariant-loop-item
invariant-loop-item l = HasThings (take l.item-index l.items) (has_id l.ids) (contains_text l.symbols)
