use Rattle.sheet_groups.specs.steps.Scans.{HasPairsBefore}
use Rattle.sheet_groups.proofs.scans.scanned_pairs.Given as goal

abbrev pub invariant-loop-first : goal.invariant-loop-first
invariant-loop-first l = HasPairsBefore l.conductors l.first l.pairs.items
