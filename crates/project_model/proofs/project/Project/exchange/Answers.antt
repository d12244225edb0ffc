use Rattle.std.proofs.Common.{◌≡◌, ◌<◌, ◌∙◌, suc, sym, ap, subst, length, get_or, add-one, arith}
use Rattle.project_model.specs.Changes.{IsIdInRange, name_count}
use Rattle.project_model.specs.Items.{Item}
use Rattle.project_model.proofs.ChangeLemmas.{put_next, length_now, kept, now_at, set_next, names_next, names_of_part}
use Rattle.project_model.proofs.project.Project.exchange.Goals as goal

pub put_one-requires-clause-names : goal.put_one-requires-clause-names
put_one-requires-clause-names c =
    let p = c.args.self.now.contents in
    let items = c.args.change.items in
    let i = c.loop-item.item-index in
    let r = c.item-item.result in
    let h : i < length items = omega (arith, ap length c.loop-item.invariant.items, length_now p items i) in
    let e : r ≡ get_or items i r = c.item-item.is ∙ ap (λ ls. get_or ls i r) c.loop-item.invariant.items ∙ now_at p items i r h in
    let seen = ap (λ (item : Item). name_count item.0) c.item-item.is in
    omega (arith, seen, c.requires.room.names, c.loop-item.invariant.names, names_next items i r h e, names_of_part items (suc i))

pub put_one-requires-clause-id : goal.put_one-requires-clause-id
put_one-requires-clause-id c =
    let p = c.args.self.now.contents in
    let items = c.args.change.items in
    let i = c.loop-item.item-index in
    let r = c.item-item.result in
    let h : i < length items = omega (arith, ap length c.loop-item.invariant.items, length_now p items i) in
    let e : r ≡ get_or items i r = c.item-item.is ∙ ap (λ ls. get_or ls i r) c.loop-item.invariant.items ∙ now_at p items i r h in
    subst (λ (item : Item). IsIdInRange item.0) (sym e ∙ c.item-item.is) (c.requires.can_apply.in_range i r h)

pub loop-item-preserved : goal.loop-item-preserved
loop-item-preserved c =
    let p = c.args.self.now.contents in
    let items = c.args.change.items in
    let i = c.loop-item.item-index in
    let r = c.item-item.result in
    let h : i < length items = omega (arith, ap length c.loop-item.invariant.items, length_now p items i) in
    let e : r ≡ get_or items i r = c.item-item.is ∙ ap (λ ls. get_or ls i r) c.loop-item.invariant.items ∙ now_at p items i r h in
    record {
      contents = rw (add-one, c.put_one.ensures.contents, c.take-value.ensures.value, ← c.item-item.is, c.loop-item.invariant.contents) (sym (put_next p items i r h e));
      things = omega arith;
      names = rw add-one (omega (arith, ap (λ (item : Item). name_count item.0) c.item-item.is, c.put_one.ensures.names, names_next items i r h e));
      items = rw (add-one, c.put_one.ensures.before, ← c.item-item.is, c.loop-item.invariant.contents, kept p items i r c.requires.can_apply.distinct h e, c.loop-item.invariant.items) (set_next p items i r h e);
    }
