use Rattle.std.proofs.Common.{◌+◌, ◌<◌, ℕ, List, drop, get_or, subst, arith}
use Rattle.std.proofs.lemmas.List.{drop_more}
use Rattle.std.proofs.lemmas.List.Elements.{All-get_or}
use Rattle.rank_order.proofs.MetLemmas.{MeetsOn, meets_more}
use Rattle.rank_order.proofs.classes.labels_met.Goals as goal

pub loop-at-preserved : goal.loop-at-preserved
loop-at-preserved c =
    let own : ℕ → ℕ = λ label. label in
    let labels = c.args.labels.now in
    let at = c.loop-at.at in
    let label = get_or labels at 0 in
    let below : label < c.args.count = All-get_or (λ l. l < c.args.count) labels at 0 (omega arith) c.requires in
    meets_more own labels c.args.count c.loop-at.is_met.items c.meet.new.is_met.items c.loop-at.heads.items c.meet.new.heads.items (drop (at + 1) labels) label
    (subst (λ (zs : List ℕ). MeetsOn own labels c.args.count c.loop-at.is_met.items c.loop-at.heads.items zs) (drop_more labels at 0 (omega arith)) c.loop-at.invariant) below c.in_ok-meet.ensures
