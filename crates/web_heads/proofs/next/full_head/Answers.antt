use Rattle.httparse.specs.Grammar.{HasNoRequest, MayBecomeRequest}
use Rattle.std.proofs.Common.{inl, subst}
use Rattle.web_heads.proofs.Nexts.{large_head}
use Rattle.web_heads.proofs.next.full_head.Goals as goal

pub returns-in-Open-clause-next : goal.returns-in-Open-clause-next
returns-in-Open-clause-next c = λ after. (large_head c.args.access.now c.args.buffer.now c.bytes.ensures.few c.requires (subst HasNoRequest c.bytes.ensures.bytes c.in-Open.ensures.0) (subst MayBecomeRequest c.bytes.ensures.bytes c.in-Open.ensures.1), inl tt)
