use Rattle.touch_index.specs.steps.Spanning.{IsPushing}
use Rattle.touch_index.proofs.spans.push_all.Given as goal

abbrev pub invariant-loop-mark : goal.invariant-loop-mark
invariant-loop-mark l = IsPushing l.marks l.fn.span l.width l.own l.fn.keys.items l.keys.items l.mark-iterator
