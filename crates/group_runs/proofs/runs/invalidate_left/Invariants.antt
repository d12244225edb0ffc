use Rattle.std.proofs.Common.{drop}
use Rattle.group_runs.specs.Runs.{sheets_of}
use Rattle.group_runs.specs.steps.Running.{IsGivingUp}
use Rattle.group_runs.proofs.runs.invalidate_left.Given as goal

abbrev pub invariant-loop-place : goal.invariant-loop-place
invariant-loop-place l = IsGivingUp l.fn.rows.entries l.rows.entries (sheets_of l.leaving) (sheets_of (drop l.place-index l.leaving))
