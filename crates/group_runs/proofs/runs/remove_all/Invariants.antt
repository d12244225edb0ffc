use Rattle.std.proofs.Common.{drop}
use Rattle.group_runs.specs.steps.Running.{IsSumming}
use Rattle.group_runs.proofs.runs.remove_all.Given as goal

abbrev pub invariant-loop-place : goal.invariant-loop-place
invariant-loop-place l = IsSumming l.fn.rows.entries l.rows.entries l.fn.steps l.steps l.leaving (drop l.place-index l.leaving) l.sum
