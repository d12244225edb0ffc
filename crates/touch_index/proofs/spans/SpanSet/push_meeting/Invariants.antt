use Rattle.touch_index.specs.steps.Spans.{IsKept}
use Rattle.touch_index.specs.steps.Spanning.{AddsMet, HasFirstFound}
use Rattle.touch_index.proofs.spans.SpanSet.push_meeting.Given as goal

abbrev pub invariant-loop-width : goal.invariant-loop-width
invariant-loop-width l = IsKept l.fn.keys.items l.keys.items
    × (HasFirstFound l.wanted.all l.self l.span l.wanted.own l.width-index l.keys.items × AddsMet l.self.marks l.span l.wanted.own l.fn.keys.items l.keys.items)
