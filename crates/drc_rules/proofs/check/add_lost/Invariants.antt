use Rattle.std.proofs.Common.{◌≡◌, ◌++◌, drop, map}
use Rattle.drc_rules.specs.Findings.{lost_finding}
use Rattle.drc_rules.proofs.check.add_lost.Given as goal

abbrev pub invariant-loop-one : goal.invariant-loop-one
invariant-loop-one l =
    l.found.items ++ map lost_finding (drop l.one-index l.lost)
    ≡ l.fn.found.items ++ map lost_finding l.lost
