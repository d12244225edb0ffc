use Rattle.std.proofs.Common.{drop}
use Rattle.group_runs.specs.steps.Running.{IsInserting}
use Rattle.group_runs.proofs.runs.insert_all.Given as goal

abbrev pub invariant-loop-one : goal.invariant-loop-one
invariant-loop-one l = IsInserting l.fn.rows.entries l.rows.entries l.fn.steps l.steps l.coming (drop l.one-index l.coming)
