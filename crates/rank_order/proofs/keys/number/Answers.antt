use Rattle.std.proofs.Common.{◌<◌, ◌∙◌, ℕ, get_or, length, refl, arith}
use Rattle.std.proofs.lemmas.List.{length-set}
use Rattle.std.proofs.lemmas.List.Elements.{All-get_or}
use Rattle.rank_order.specs.Keys.{same_key}
use Rattle.rank_order.proofs.KeyLemmas.{numbers_done, numbers_more, numbers_start, run_within, same_own}
use Rattle.rank_order.proofs.keys.number.Goals as goal

pub loop-at-init : goal.loop-at-init
loop-at-init g c =
    let keys = c.args.keys.now in
    let places = c.args.places.now in
    let filled : 0 < length places = omega arith in
    record {
      len = refl;
      head = All-get_or (λ (p : ℕ). p < length keys) places 0 0 filled c.requires.inside;
      on = numbers_start (same_key g.K.Ord.cmp keys) (same_own g.met.K.Ord.total keys) places c.args.ranks.now.items filled;
    }

pub loop-at-preserved : goal.loop-at-preserved
loop-at-preserved g c =
    let keys = c.args.keys.now in
    let places = c.args.places.now in
    let at = c.loop-at.at in
    let kept = c.loop-at.invariant in
    let same = same_key g.K.Ord.cmp keys in
    let own = same_own g.met.K.Ord.total keys in
    let place = get_or places at 0 in
    let inside : place < length keys = All-get_or (λ (p : ℕ). p < length keys) places at 0 (omega arith) c.requires.inside in
    let room : place < length c.loop-at.ranks.items = omega (arith, inside, kept.len, c.requires.room) in
    record {
      len = length-set c.loop-at.ranks.items place c.run_with-run.result.1 ∙ kept.len;
      head = run_within same own (length keys) c.loop-at.run c.run_with-run.result place kept.head inside c.run_with-run.ensures;
      on = numbers_more same own places at c.loop-at.run c.run_with-run.result c.loop-at.ranks.items place kept.on (omega arith) refl room c.run_with-run.ensures;
    }

pub returns-clause-numbers : goal.returns-clause-numbers
returns-clause-numbers g c =
    let keys = c.args.keys.now in
    numbers_done (same_key g.K.Ord.cmp keys) (same_own g.met.K.Ord.total keys) c.args.places.now c.loop-at.at c.loop-at.run c.loop-at.ranks.items c.loop-at.invariant.on (omega arith)
