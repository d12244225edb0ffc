use Rattle.std.proofs.Common.{◌≡◌, ◌++◌, drop}
use Rattle.std.specs.List.{flat_map}
use Rattle.drc_rules.specs.steps.Counts.{conflicts_by, conflicts_with_by}
use Rattle.drc_rules.proofs.conflicts.add_conflicts_among.Given as goal

abbrev pub invariant-loop-first : goal.invariant-loop-first
invariant-loop-first l =
    l.found.items ++ flat_map (conflicts_with_by l.matrix l.name l.counts) (drop l.first-index l.counts)
    ≡ l.fn.found.items ++ conflicts_by l.matrix l.name l.counts
