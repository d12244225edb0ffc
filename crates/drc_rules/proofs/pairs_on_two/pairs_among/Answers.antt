use Rattle.text_tallies.proofs.PairLemmas.{twice_from_none}
use Rattle.drc_rules.specs.OnNets.{has_pair_in}
use Rattle.drc_rules.proofs.pairs_on_two.pairs_among.Goals as goal

pub loop-net-init : goal.loop-net-init
loop-net-init c = λ q.
    rw (c.in_ok-seen.ensures.empty, c.new-twice.ensures.empty) (twice_from_none (has_pair_in q) c.args.nets.now)
