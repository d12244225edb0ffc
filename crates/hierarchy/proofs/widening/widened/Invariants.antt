use Rattle.std.proofs.Common.{◌≡◌, ◌++◌, flat_map}
use Rattle.std.specs.Vec.Iter.{into_iter_items}
use Rattle.hierarchy.specs.steps.Widening.{widened}
use Rattle.hierarchy.proofs.widening.widened.Given as goal

abbrev pub invariant-loop-way : goal.invariant-loop-way
invariant-loop-way l = l.wide.items ++ flat_map (widened l.sheets l.depth) (into_iter_items l.way-iterator) ≡ flat_map (widened l.sheets l.depth) l.fn.ways.items
