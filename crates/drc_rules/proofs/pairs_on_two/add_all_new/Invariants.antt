use Rattle.std.proofs.Common.{◌≡◌, ◌||◌, ◌&&◌, drop, false}
use Rattle.std.specs.List.{list_any}
use Rattle.text_tallies.specs.PairSets.{PairData}
use Rattle.drc_rules.specs.steps.Pins.{is_pair, is_seen}
use Rattle.drc_rules.proofs.pairs_on_two.add_all_new.Given as goal

abbrev pub invariant-loop-member : goal.invariant-loop-member
invariant-loop-member l = record {
  added : (q : PairData) → (is_seen l.seen q || list_any (is_pair q) (drop l.member-index l.members))
      ≡ (is_seen l.fn.seen q || list_any (is_pair q) l.members);
  unseen : (q : PairData) → (is_seen l.seen q && list_any (is_pair q) (drop l.member-index l.members)) ≡ false
      → (is_seen l.fn.seen q && list_any (is_pair q) l.members) ≡ false;
}
