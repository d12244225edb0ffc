use Rattle.work_run.proofs.OneWork.{one_text}
use Rattle.work_run.proofs.laws.one_work.Goals as goal

pub returns : goal.returns
returns c = one_text
