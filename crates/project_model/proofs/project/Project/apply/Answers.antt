use Rattle.project_model.proofs.BuiltChanges.{CanApply-values_in}
use Rattle.project_model.proofs.project.Project.apply.Goals as goal

pub returns-clause-again : goal.returns-clause-again
returns-clause-again c = rw c.exchange.ensures.before (CanApply-values_in c.args.self.now.contents _ c.requires.can_apply)
