use Rattle.gafd_run.proofs.CheckLemmas.{of_check}
use Rattle.gafd_run.proofs.answer.checked.Goals as goal

pub returns : goal.returns
returns c = of_check c.args.project.contents c.args.matrix.now c.in_ok-check.check c.in_ok-check.nets c.reported.result c.in_ok-check.ensures c.reported.ensures
