use Rattle.std.proofs.Common.{rules, append_assoc}
use Rattle.geda_write.proofs.Outputs.{more_more}
use Rattle.geda_write.proofs.Contents.{length_lines, lines_ended}
use Rattle.geda_write.proofs.shapes.put_text.Goals as goal

pub returns : goal.returns
returns g c = search (rules, append_assoc, more_more, length_lines, lines_ended)
