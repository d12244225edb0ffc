use Rattle.std.proofs.Common.{◌≡◌, drop}
use Rattle.text_tallies.specs.PairSets.{PairData, has_pair}
use Rattle.text_tallies.specs.TwoOfAList.{two_pass}
use Rattle.text_tallies.specs.steps.Twice.{twice_after}
use Rattle.drc_rules.specs.OnNets.{has_pair_in}
use Rattle.drc_rules.specs.steps.Pins.{is_seen}
use Rattle.drc_rules.proofs.pairs_on_two.pairs_among.Given as goal

abbrev pub invariant-loop-net : goal.invariant-loop-net
invariant-loop-net l = (q : PairData)
    → twice_after (is_seen l.seen q) (has_pair l.twice q) (has_pair_in q) (drop l.net-index l.nets)
    ≡ two_pass (has_pair_in q) l.nets
