use Rattle.text_heads.proofs.HeadLemmas.{four_bytes}
use Rattle.text_heads.proofs.heads.four_at.Goals as goal

pub returns-clause-head : goal.returns-clause-head
returns-clause-head c = λ head.
    four_bytes head c.args.at _ _ _ _ c.args.bytes.now c.byte_at.ensures.byte c.byte_at-2.ensures.byte c.byte_at-3.ensures.byte c.byte_at-4.ensures.byte
