use Rattle.work_run.specs.Runs.{IsRun}
use Rattle.work_run.specs.steps.SoundRuns.{IsSoundRun, run_of}
use Rattle.work_run.proofs.steps.run_from.Given as goal

abbrev pub invariant-loop-done : goal.invariant-loop-done
invariant-loop-done l = IsRun l.start l._done (run_of l.run) × IsSoundRun l._done l.run
