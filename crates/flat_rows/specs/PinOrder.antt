-- The order of pins above a port, as keys of ordered maps (own).
use Rattle.std.specs.declared.cmp.Ordering.{Ordering}
use Rattle.std.specs.Ordering.{ordering_then, nat_cmp}
use Rattle.std.specs.Cmp.Lexicographic.{slice_cmp}
use Rattle.flat_rows.specs.declared.conductors.PortPins.{PortPins}

-- by instance, id and label
abbrev pub by_pins : PortPins → PortPins → Ordering
by_pins a b = ordering_then
    (ordering_then (nat_cmp a.instance b.instance) (nat_cmp a.id b.id))
    (slice_cmp nat_cmp a.label b.label)
