use Rattle.std.proofs.Common.{◌≡◌, List, [], ◌∷◌, ◌++◌, true, map, sym, ap, ◌∙◌}
use Rattle.std.specs.Prelude.{slice_get}
use Rattle.std.specs.Ordering.{eq_by_cmp}
use Rattle.rank_order.proofs.ChainLemmas.{get_read}
use Rattle.flat_rows.specs.Keyed.{Keyed}
use Rattle.flat_rows.specs.declared.rows.RowMember.{RowMember}
use Rattle.net_list.specs.declared.member.Member.{Member}
use Rattle.net_names.specs.NetClasses.{ClassPinData, by_member}
use Rattle.net_names.specs.steps.Classes.{is_new_at, pins_by}
use Rattle.net_names.specs.steps.Pins.{pin_under}
use Rattle.net_names.proofs.OrderedLemmas.{new_one, pin_there}
use Rattle.net_names.proofs.net_classes.push_new.Goals as goal

pub returns-in_ok-push : goal.returns-in_ok-push
returns-in_ok-push c =
    let ordered = c.args.ordered.now in
    let pins = pins_by ordered in
    let pin = c.args.pin in
    let member = c.index-ordered-pin.result in
    let old = c.args.members.now.items in
    let there = pin_there ordered pin member (get_read ordered.members.now pin member c.requires.pin c.index-ordered-pin.is) in
    let test : is_new_at (eq_by_cmp by_member) (slice_get pins c.args.last) (slice_get pins pin) ≡ true = sym c.is_new.ensures ∙ c.if-is_new.true in
    let one = new_one (eq_by_cmp by_member) (slice_get pins c.args.last) (slice_get pins pin) (pin_under ordered.refdeses.now member) there test in
    c.in_ok-push.ensures.items
    ∙ ap (λ (m : Member). old ++ m ∷ []) (c.in_ok-member.ensures ∙ ap (λ (p : ClassPinData). p.member) c.class_pin-pin.ensures)
    ∙ ap (λ (m : Keyed RowMember). old ++ (pin_under ordered.refdeses.now m).member ∷ []) (sym c.index-ordered-pin.is)
    ∙ ap (λ (ps : List ClassPinData). old ++ map (λ p. p.member) ps) (sym one)
