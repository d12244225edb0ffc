use Rattle.std.proofs.Common.{ℕ, ◌+◌, subst}
use Rattle.work_run.specs.Runs.{IsStep}
use Rattle.work_run.specs.steps.SoundRuns.{IsSoundRun, OpenRun, run_of}
use Rattle.work_run.proofs.RunLemmas.{IsSoundRun-put, IsStep-put}
use Rattle.work_run.proofs.steps.Run.step.Goals as goal

pub returns-in_ok-follow-clause-step : goal.returns-in_ok-follow-clause-step
returns-in_ok-follow-clause-step c =
    let new : OpenRun = record { state = c.next_among.new.self; live = c.follow.new.self; board = c.put_in.new.board; bound = c.in_ok-self-inside.field-0 } in
    let given = rw c.in-Some.is at c.in_ok-change.ensures.step in
    subst (λ (old : OpenRun). IsStep (run_of old) (run_of new)) c.self.view_is (IsStep-put _ (run_of new) c.project-project.result.now.contents c.in-Some.change.items c.project-project.ensures given c.in_ok-change.ensures.drawn c.in_ok-self-inside.ensures.project c.in_ok-self-inside.ensures.sum)

pub returns-in_ok-follow-clause-sound : goal.returns-in_ok-follow-clause-sound
returns-in_ok-follow-clause-sound c =
    let new : OpenRun = record { state = c.next_among.new.self; live = c.follow.new.self; board = c.put_in.new.board; bound = c.in_ok-self-inside.field-0 } in
    let given = rw c.in-Some.is at c.in_ok-change.ensures.step in
    subst (λ (old : OpenRun). (count : ℕ) → IsSoundRun count old → IsSoundRun (count + 1) new) c.self.view_is (λ count sound. IsSoundRun-put count _ new c.project-project.result.now.contents c.in-Some.change.items c.project-project.ensures given c.in_ok-self-inside.ensures.project c.in_ok-self-inside.ensures.sound c.in_ok-follow.ensures sound)
