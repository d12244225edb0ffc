use Rattle.std.proofs.Common.{rules, append_assoc}
use Rattle.geda_write.proofs.Outputs.{more_more}
use Rattle.geda_write.proofs.shapes.put_columns.Goals as goal

pub returns-in_ok-put_style-in_default : goal.returns-in_ok-put_style-in_default
returns-in_ok-put_style-in_default g c = search (rules, append_assoc, more_more)
