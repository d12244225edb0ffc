use Rattle.std.proofs.Common.{arith}
use Rattle.text_tallies.specs.PairSets.{same_pair}
use Rattle.text_tallies.proofs.KeyLemmas.{drop_next}
use Rattle.text_tallies.proofs.PairLemmas.{twice_from_none}
use Rattle.text_tallies.proofs.twice.pairs_twice_in.Goals as goal

pub loop-pair-init : goal.loop-pair-init
loop-pair-init c = λ q.
    rw (c.in_ok-seen.ensures.empty, c.new-twice.ensures.empty) (twice_from_none (same_pair q) c.args.pairs.now)

pub loop-pair-preserved : goal.loop-pair-preserved
loop-pair-preserved c =
    let more = drop_next c.args.pairs.now c.loop-pair.pair-index c.pair-item.result (omega arith) c.pair-item.is in
    λ q.
    let held = rw more at c.loop-pair.invariant q in
    rw (c.in_ok-take_pair.ensures.seen q, c.in_ok-take_pair.ensures.twice q, c.copy_of.ensures) held
