use Rattle.work_run.proofs.CrowdLemmas.{run_is_free}
use Rattle.work_run.proofs.laws.one_instance.Goals as goal

pub returns : goal.returns
returns c = run_is_free
