use Rattle.std.proofs.Common.{◌≡◌}
use Rattle.hierarchy.specs.Ways.{ways_within}
use Rattle.hierarchy.proofs.elaboration.all_ways.Given as goal

abbrev pub invariant-loop-depth : goal.invariant-loop-depth
invariant-loop-depth l = l.ways.items ≡ ways_within l.sheets l.depth
