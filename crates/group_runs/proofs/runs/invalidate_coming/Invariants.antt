use Rattle.std.proofs.Common.{drop}
use Rattle.group_runs.specs.Runs.{sheets_in}
use Rattle.group_runs.specs.steps.Running.{IsGivingUp}
use Rattle.group_runs.proofs.runs.invalidate_coming.Given as goal

abbrev pub invariant-loop-one : goal.invariant-loop-one
invariant-loop-one l = IsGivingUp l.fn.rows.entries l.rows.entries (sheets_in l.coming) (sheets_in (drop l.one-index l.coming))
