-- Steps of the code; no public clause cites them.
-- The order of the marks of spans (own).
use Rattle.std.specs.Ordering.{ordering_then, nat_cmp}
use Rattle.std.specs.declared.cmp.Ordering.{Ordering}
use Rattle.geda_geom.specs.Keys.{by_key}
use Rattle.touch_index.specs.declared.spans.Mark.{Mark}

-- by line, then by width, then by where the span begins, then the longest first, and then by key
abbrev pub by_mark : Mark → Mark → Ordering
by_mark a b =
    ordering_then (nat_cmp a.line b.line)
    (ordering_then (nat_cmp a.width b.width)
    (ordering_then (nat_cmp a.from b.from)
    (ordering_then (nat_cmp a.beyond b.beyond)
    (by_key a.key b.key))))
