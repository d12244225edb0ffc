use Rattle.std.proofs.Common.{◌≡◌, ◌++◌, map}
use Rattle.std.specs.Vec.Iter.{into_iter_items}
use Rattle.hierarchy.specs.SheetTable.{source_of}
use Rattle.hierarchy.proofs.components.sources_of.Given as goal

abbrev pub invariant-loop-value : goal.invariant-loop-value
invariant-loop-value l = l.sources.items ++ map (source_of l.names) (into_iter_items l.value-iterator) ≡ map (source_of l.names) l.fn.values.items
