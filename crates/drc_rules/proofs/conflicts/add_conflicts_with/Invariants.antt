use Rattle.std.proofs.Common.{◌≡◌, ◌++◌, drop}
use Rattle.drc_rules.specs.steps.Counts.{conflicts_with_by}
use Rattle.drc_rules.proofs.conflicts.add_conflicts_with.Given as goal

abbrev pub invariant-loop-second : goal.invariant-loop-second
invariant-loop-second l =
    l.found.items ++ conflicts_with_by l.matrix l.name (drop l.second-index l.others) l.first
    ≡ l.fn.found.items ++ conflicts_with_by l.matrix l.name l.others l.first
