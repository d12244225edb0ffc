use Rattle.std.proofs.Common.{◌≡◌, ◌∙◌, ◌+◌, ◌&&◌, ◌||◌, Bool, true, ap, arith, drop, sym}
use Rattle.std.specs.List.{list_any}
use Rattle.std.proofs.lemmas.List.{drop_all}
use Rattle.text_tallies.specs.PairSets.{same_pair}
use Rattle.text_tallies.proofs.KeyLemmas.{drop_next}
use Rattle.text_tallies.proofs.PairLemmas.{and_false, or_false}
use Rattle.drc_rules.specs.steps.Pins.{is_pair, is_seen}
use Rattle.drc_rules.proofs.PinLemmas.{apart_moved, new_apart, or_moved}
use Rattle.drc_rules.proofs.pairs_on_two.add_all_new.Goals as goal

pub loop-member-preserved : goal.loop-member-preserved
loop-member-preserved c =
    let old = c.loop-member.seen in
    let rest = drop (c.loop-member.member-index + 1) c.args.members.now in
    let pair = c.pair_of.result in
    let next = drop_next c.args.members.now c.loop-member.member-index c.member-item.result (omega arith) c.member-item.is in
    let fresh : c.in_ok-added.added ≡ true = let h = c.if-not-added.false in cc in
    record {
      added = λ q.
          let held = rw next at c.loop-member.invariant.added q in
          ap (λ (b : Bool). b || list_any (is_pair q) rest) (c.in_ok-added.ensures.adds q ∙ ap (λ p. is_seen old q || same_pair q p) c.pair_of.ensures)
          ∙ or_moved (is_seen old q) (is_pair q c.member-item.result) (list_any (is_pair q) rest) ∙ held;
      unseen = λ q left.
          let held = rw next at c.loop-member.invariant.unseen q in
          let here = sym (ap (λ p. is_seen old q && same_pair q p) c.pair_of.ensures) ∙ new_apart pair old (c.in_ok-added.ensures.fresh fresh) q in
          let then = sym (ap (λ (b : Bool). b && list_any (is_pair q) rest) (c.in_ok-added.ensures.adds q ∙ ap (λ p. is_seen old q || same_pair q p) c.pair_of.ensures)) ∙ left in
          held (apart_moved (is_seen old q) (is_pair q c.member-item.result) (list_any (is_pair q) rest) here then);
    }

pub returns-clause-adds : goal.returns-clause-adds
returns-clause-adds c = λ yes q.
    let last = drop_all c.loop-member.member-index c.args.members.now (omega (arith, c.loop-member-test.false)) in
    let held = rw last at c.loop-member.invariant.added q in
    sym (or_false (is_seen c.loop-member.seen q)) ∙ held

pub returns-clause-unseen : goal.returns-clause-unseen
returns-clause-unseen c = λ yes q.
    let last = drop_all c.loop-member.member-index c.args.members.now (omega (arith, c.loop-member-test.false)) in
    let held = rw last at c.loop-member.invariant.unseen q in
    held (and_false (is_seen c.loop-member.seen q))
