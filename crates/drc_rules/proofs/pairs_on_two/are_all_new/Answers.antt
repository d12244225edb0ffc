use Rattle.std.proofs.Common.{◌≡◌, ◌∙◌, ◌+◌, ◌&&◌, ◌||◌, Bool, List, true, false, ap, arith, drop, rules, sym}
use Rattle.std.specs.List.{list_any}
use Rattle.std.proofs.lemmas.List.{drop_all}
use Rattle.net_list.specs.declared.member.Member.{Member}
use Rattle.text_tallies.specs.steps.Twice.{twice_after}
use Rattle.text_tallies.proofs.KeyLemmas.{drop_next}
use Rattle.text_tallies.proofs.PairLemmas.{twice_from_none}
use Rattle.drc_rules.specs.OnNets.{has_pair_in}
use Rattle.drc_rules.specs.steps.Pins.{is_pair, is_seen}
use Rattle.drc_rules.proofs.pairs_on_two.are_all_new.Goals as goal

pub loop-net-init : goal.loop-net-init
loop-net-init c = λ q. rw c.in_ok-seen.ensures.empty (twice_from_none (has_pair_in q) c.args.nets.now)

pub loop-net-preserved : goal.loop-net-preserved
loop-net-preserved c =
    let old = c.loop-net.seen in
    let net = c.net-item.result in
    let rest = drop (c.loop-net.net-index + 1) c.args.nets.now in
    let next = drop_next c.args.nets.now c.loop-net.net-index net (omega arith) c.net-item.is in
    let members : c.as_slice.result.now ≡ net.members = search rules in
    let fresh : c.in_ok-added.added ≡ true = let h = c.if-not-added.false in cc in
    λ q.
    let held = rw next at c.loop-net.invariant q in
    let apart : (is_seen old q && has_pair_in q net) ≡ false = sym (ap (λ (ms : List Member). is_seen old q && list_any (is_pair q) ms) members) ∙ c.in_ok-added.ensures.unseen fresh q in
    ap (λ (seen : Bool). twice_after seen false (has_pair_in q) rest) (c.in_ok-added.ensures.adds fresh q ∙ ap (λ (ms : List Member). is_seen old q || list_any (is_pair q) ms) members)
    ∙ ap (λ (twice : Bool). twice_after (is_seen old q || has_pair_in q net) twice (has_pair_in q) rest) (sym apart) ∙ held

pub returns : goal.returns
returns c = λ yes q.
    let last = drop_all c.loop-net.net-index c.args.nets.now (omega (arith, c.loop-net-test.false)) in
    let held = rw last at c.loop-net.invariant q in
    sym held
