use Rattle.sheet_groups.proofs.ScanLemmas.{paired, passed, places_touch, touch_of_places}
use Rattle.sheet_groups.proofs.scans.add_if_touching.Goals as goal

pub returns-then-not-do_touch : goal.returns-then-not-do_touch
returns-then-not-do_touch c = λ has.
    passed c.args.conductors.now c.args.first c.args.second c.args.pairs.now.items
    (λ at. let is = c.do_touch.ensures.1 (touch_of_places c.args.conductors.now c.args.first c.args.second _ _ at) in let e = c.if-not-do_touch.true in absurd (cc)) has

pub returns : goal.returns
returns c = λ has.
    rw c.in_ok-push.ensures.items (paired c.args.conductors.now c.args.first c.args.second c.args.pairs.now.items
    (places_touch c.args.conductors.now c.args.first c.args.second _ _ c.requires.first c.requires.second (c.do_touch.ensures.0 c.if-not-do_touch.false)) has)
