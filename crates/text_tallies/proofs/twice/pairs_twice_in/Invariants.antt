use Rattle.std.proofs.Common.{◌≡◌, drop}
use Rattle.text_tallies.specs.PairSets.{PairData, has_pair, same_pair}
use Rattle.text_tallies.specs.TwoOfAList.{two_pass}
use Rattle.text_tallies.specs.steps.KeySteps.{is_seen}
use Rattle.text_tallies.specs.steps.Twice.{twice_after}
use Rattle.text_tallies.proofs.twice.pairs_twice_in.Given as goal

abbrev pub invariant-loop-pair : goal.invariant-loop-pair
invariant-loop-pair l = (q : PairData)
    → twice_after (is_seen l.seen q) (has_pair l.twice q) (same_pair q) (drop l.pair-index l.pairs)
    ≡ two_pass (same_pair q) l.pairs
