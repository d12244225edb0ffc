use Rattle.std.proofs.Common.{rules, append_assoc}
use Rattle.geda_write.proofs.Outputs.{more_more}
use Rattle.geda_write.proofs.objects.put_component.Goals as goal

pub returns-in_ok-put_component_line-in-Some : goal.returns-in_ok-put_component_line-in-Some
returns-in_ok-put_component_line-in-Some g c = search (rules, append_assoc, more_more)
