use Rattle.std.proofs.Common.{◌≡◌, length}
use Rattle.drc_rules.specs.steps.Meetings.{all_may_meet}
use Rattle.drc_rules.proofs.conflicts.all_may_meet.Given as goal

abbrev pub invariant-loop-rest : goal.invariant-loop-rest
invariant-loop-rest l = all_may_meet l.matrix l.rest ≡ all_may_meet l.matrix l.members

abbrev pub decreases-loop-rest : goal.decreases-loop-rest
decreases-loop-rest l = length l.rest
