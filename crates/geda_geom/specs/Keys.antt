-- The order of the keys of conductors (own).
use Rattle.std.specs.Ordering.{ordering_then, nat_cmp}
use Rattle.std.specs.declared.cmp.Ordering.{Ordering}
use Rattle.geda_geom.specs.declared.conductor.Key.{Key}

-- by the id of the object, then by the place among its pins
abbrev pub by_key : Key → Key → Ordering
by_key a b = ordering_then (nat_cmp a.id b.id) (nat_cmp a.place b.place)
