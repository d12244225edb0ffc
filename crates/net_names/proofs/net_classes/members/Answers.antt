use Rattle.std.proofs.Common.{◌≡◌, ℕ, ◌<◌, [], get_or, length, subst, ◌∙◌, arith}
use Rattle.std.proofs.lemmas.List.{get_or_read}
use Rattle.std.specs.Ordering.{eq_by_cmp}
use Rattle.net_names.specs.NetClasses.{by_member}
use Rattle.net_names.specs.steps.Classes.{pins_by}
use Rattle.net_names.proofs.OrderedLemmas.{count_pins, places_there}
use Rattle.net_names.proofs.PinLemmas.{NewsOn, news_done, news_more, news_start}
use Rattle.net_names.proofs.net_classes.members.Goals as goal

pub loop-at-init : goal.loop-at-init
loop-at-init c =
    let ordered = c.args.ordered.now in
    let places = ordered.places.items in
    let nexts = c.args.nexts.now in
    let start = news_start (eq_by_cmp by_member) (pins_by ordered) places nexts c.args.head in
    rw c.in_ok-members.ensures.items (subst (λ (last : ℕ). NewsOn (eq_by_cmp by_member) (pins_by ordered) places nexts c.args.head c.args.head last []) (count_pins ordered) start)

pub loop-at-preserved : goal.loop-at-preserved
loop-at-preserved c =
    let ordered = c.args.ordered.now in
    let places = ordered.places.items in
    let whole = c.requires.whole in
    let before : c.loop-at.at < length places = omega (arith, whole.len) in
    let pin : c.index-pin.result.now ≡ get_or places c.loop-at.at 0 = get_or_read places c.loop-at.at c.index-pin.result.now before c.index-pin.ensures 0 in
    let pushed = rw pin at c.in_ok-push_new.ensures in
    rw pin (news_more (eq_by_cmp by_member) (pins_by ordered) places c.args.nexts.now c.args.head c.loop-at.at c.loop-at.last c.loop-at.members.items c.push_new.new.members.items
    (omega arith) whole.len (places_there ordered places whole.inside) c.loop-at.invariant pushed)

pub returns : goal.returns
returns c = λ walk w.
    let ordered = c.args.ordered.now in
    c.from_vec.ensures ∙ news_done (eq_by_cmp by_member) (pins_by ordered) ordered.places.items c.args.nexts.now c.args.head c.loop-at.at c.loop-at.last c.loop-at.members.items (omega arith) c.loop-at.invariant walk w
