use Rattle.work_run.proofs.RunLemmas.{IsSoundBoard-next}
use Rattle.work_run.proofs.steps.put_in.Goals as goal

pub returns-clause-sound : goal.returns-clause-sound
returns-clause-sound c = λ sound. IsSoundBoard-next c.args.board.now c.apply_with_bound.new.self c.args.change.now.items c.args.bound c.in_ok-more.more c.saturating_add.result sound c.in_ok-more.ensures.renewed c.in_ok-more.ensures.few c.in_ok-more.ensures.bound c.saturating_add.ensures
