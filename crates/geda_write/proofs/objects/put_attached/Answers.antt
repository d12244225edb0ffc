use Rattle.std.proofs.Common.{◌∙◌, ap, sym}
use Rattle.geda_write.specs.steps.Output.{more}
use Rattle.geda_write.proofs.Outputs.{more_nothing}
use Rattle.geda_write.proofs.Canonical.{attached_nothing}
use Rattle.geda_write.proofs.objects.put_attached.Goals as goal

pub returns-in-empty : goal.returns-in-empty
returns-in-empty g c = sym (ap (more _) (attached_nothing c.args.texts.now c.in-empty.len_below) ∙ more_nothing _)
