use Rattle.std.proofs.Common.{◌≡◌, subst, arith}
use Rattle.work_run.specs.Runs.{IsRun}
use Rattle.work_run.specs.steps.SoundRuns.{run_of}
use Rattle.work_run.proofs.RunLemmas.{IsRun-next}
use Rattle.work_run.proofs.steps.run_from.Goals as goal

pub loop-done-preserved : goal.loop-done-preserved
loop-done-preserved c =
    let before = c.loop-done.invariant in
    (IsRun-next c.args.start c.loop-done._done (run_of c.loop-done.run) (run_of c.step.new.self) before.0 c.in_ok-step.ensures.step, c.in_ok-step.ensures.sound c.loop-done._done before.1)

pub returns-clause-run : goal.returns-clause-run
returns-clause-run c =
    let all : c.loop-done._done ≡ c.args.count = omega arith in
    subst (λ n. IsRun c.args.start n (run_of c.loop-done.run)) all c.loop-done.invariant.0
