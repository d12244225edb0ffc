use Rattle.std.proofs.Common.{rules, append_assoc}
use Rattle.geda_write.proofs.Outputs.{more_more}
use Rattle.geda_write.proofs.shapes.put_style.Goals as goal

pub returns-in_ok-put_stroke-in-Rect : goal.returns-in_ok-put_stroke-in-Rect
returns-in_ok-put_stroke-in-Rect g c = search (rules, append_assoc, more_more)
