use Rattle.std.proofs.Common.{◌≡◌, ◌++◌, drop, flat_map}
use Rattle.hierarchy.specs.Lost.{way_lost}
use Rattle.hierarchy.proofs.lost.push_ways.Given as goal

abbrev pub invariant-loop-way : goal.invariant-loop-way
invariant-loop-way l = l.lost.items ++ flat_map (way_lost l.sheets) (drop l.way-index l.ways) ≡ l.fn.lost.items ++ flat_map (way_lost l.sheets) l.ways
