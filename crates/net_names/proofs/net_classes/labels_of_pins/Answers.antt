use Rattle.std.proofs.Common.{◌≡◌, ℕ, ◌<◌, List, [], ◌∷◌, ◌++◌, Some, get_or, length, sym, ap, subst, ◌∙◌, arith, rules}
use Rattle.std.specs.Prelude.{slice_get}
use Rattle.std.proofs.lemmas.List.{get_or_read}
use Rattle.std.proofs.lemmas.List.Elements.{All-get_or}
use Rattle.rank_order.proofs.ChainLemmas.{get_read}
use Rattle.flat_rows.specs.Keyed.{Keyed}
use Rattle.flat_rows.specs.declared.rows.RowMember.{RowMember}
use Rattle.net_names.specs.steps.Classes.{pins_by}
use Rattle.net_names.specs.steps.Pins.{label_of, pin_under}
use Rattle.net_names.proofs.GatheredLemmas.{labels_more}
use Rattle.net_names.proofs.OrderedLemmas.{pin_there}
use Rattle.net_names.proofs.net_classes.labels_of_pins.Goals as goal

pub loop-at-preserved : goal.loop-at-preserved
loop-at-preserved c =
    let ordered = c.args.ordered.now in
    let members = ordered.members.now in
    let places = ordered.places.items in
    let labels = c.args.labels.now in
    let at = c.loop-at.at in
    let member = c.index-ordered-index.result in
    let before : at < length places = search (rules, arith) in
    let place : c.index.result.now ≡ get_or places at 0 = get_or_read places at c.index.result.now before c.index.ensures 0 in
    let known : get_or places at 0 < length members = All-get_or (λ (p : ℕ). p < length members) places at 0 before c.requires.places in
    let there : slice_get members c.index.result.now ≡ Some member = get_read members c.index.result.now member (omega (arith, place, known)) c.index-ordered-index.is in
    let stands = pin_there ordered (get_or places at 0) member (subst (λ (i : ℕ). slice_get members i ≡ Some member) place there) in
    c.in_ok-push.ensures.items
    ∙ ap (λ (m : Keyed RowMember). c.loop-at.found.items ++ label_of labels (pin_under ordered.refdeses.now m) ∷ []) (sym c.index-ordered-index.is)
    ∙ ap (λ (ls : List ℕ). ls ++ label_of labels (pin_under ordered.refdeses.now member) ∷ []) c.loop-at.invariant
    ∙ sym (labels_more (pins_by ordered) places labels at (pin_under ordered.refdeses.now member) before stands)
