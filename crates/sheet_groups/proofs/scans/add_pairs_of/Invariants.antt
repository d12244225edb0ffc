use Rattle.sheet_groups.specs.steps.Scans.{HasPairsBefore, HasPairsOf}
use Rattle.sheet_groups.proofs.scans.add_pairs_of.Given as goal

abbrev pub invariant-loop-second : goal.invariant-loop-second
invariant-loop-second l = HasPairsBefore l.conductors l.fn.first l.fn.pairs.items → HasPairsOf l.conductors l.fn.first l.second l.pairs.items
