use Rattle.std.proofs.Common.{◌≡◌, ◌||◌, ◌&&◌, drop}
use Rattle.std.specs.List.{list_any}
use Rattle.text_tallies.specs.PairSets.{PairData, has_pair}
use Rattle.drc_rules.specs.steps.Pins.{is_pair, is_seen}
use Rattle.drc_rules.proofs.pairs_on_two.add_seen_members.Given as goal

abbrev pub invariant-loop-member : goal.invariant-loop-member
invariant-loop-member l = (q : PairData)
    → (has_pair l.twice q || (is_seen l.seen q && list_any (is_pair q) (drop l.member-index l.members)))
    ≡ (has_pair l.fn.twice q || (is_seen l.seen q && list_any (is_pair q) l.members))
