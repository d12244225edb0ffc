use Rattle.std.proofs.Common.{ap, ◌∙◌, arith, refl}
use Rattle.rank_order.specs.Chains.{seen}
use Rattle.rank_order.proofs.ChainLemmas.{seen_more}
use Rattle.rank_order.proofs.KeyLemmas.{placed_more}
use Rattle.rank_order.proofs.keys.entries.Goals as goal

pub loop-at-preserved : goal.loop-at-preserved
loop-at-preserved g c =
    let at = c.loop-at.at in
    let keys = c.args.keys.now in
    let more = ap seen c.in_ok-push.ensures.items ∙ seen_more keys c.loop-at.entries.items _ at (omega arith) c.index-keys-at.is in
    rw (more, c.loop-at.invariant, placed_more keys at) refl
