use Rattle.touch_index.specs.steps.Spanning.{IsLooking}
use Rattle.touch_index.proofs.spans.first_other.Given as goal

abbrev pub invariant-loop-mark : goal.invariant-loop-mark
invariant-loop-mark l = IsLooking l.marks l.fn.span l.width l.from l.own l.mark-iterator
