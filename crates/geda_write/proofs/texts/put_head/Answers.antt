use Rattle.std.proofs.Common.{rules, append_assoc}
use Rattle.geda_write.proofs.Heads.{padded_to_eight}
use Rattle.geda_write.proofs.texts.put_head.Goals as goal

pub returns : goal.returns
returns c = search (rules, append_assoc, padded_to_eight)
