use Rattle.std.proofs.Common.{◌+◌, ◌-◌}
use Rattle.touch_index.specs.steps.Spans.{IsKept}
use Rattle.touch_index.specs.steps.Spanning.{AddsMet, HasSpanningTo}
use Rattle.touch_index.proofs.spans.push_spanning.Given as goal

abbrev pub invariant-loop-mark : goal.invariant-loop-mark
invariant-loop-mark l = IsKept l.fn.keys.items l.keys.items
    × (HasSpanningTo l.marks l.span l.width l.own l.keys.items l.from × AddsMet l.marks l.span l.own l.fn.keys.items l.keys.items)

abbrev pub decreases-loop-mark : goal.decreases-loop-mark
decreases-loop-mark l = l.span.to + 1 - l.from
