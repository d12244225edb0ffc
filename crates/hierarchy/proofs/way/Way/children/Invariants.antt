use Rattle.std.proofs.Common.{◌≡◌, ◌++◌, map}
use Rattle.std.specs.Vec.Iter.{into_iter_items}
use Rattle.hierarchy.specs.Ways.{extended, children}
use Rattle.hierarchy.proofs.way.Way.children.Given as goal

abbrev pub invariant-loop-step : goal.invariant-loop-step
invariant-loop-step l = l.ways.items ++ map (extended l.self) (into_iter_items l.step-iterator) ≡ children l.sheets l.self
