use Rattle.std.proofs.Common.{ap, ◌∙◌, cond, Some, suc, arith, add-one}
use Rattle.project_model.proofs.ChangeLemmas.{names_next, names_of_part}
use Rattle.edit_rules.specs.Histories.{is_same_thing}
use Rattle.edit_rules.proofs.Noting.{touch_next}
use Rattle.edit_rules.specs.TouchRows.{touch_in}
use Rattle.edit_rules.proofs.touches.Touches.touch.Goals as goal

pub put-requires-clause-names : goal.put-requires-clause-names
put-requires-clause-names c =
    let items = c.args.items.now in
    let i = c.loop-item.item-index in
    omega
    (arith, c.requires.names, c.loop-item.invariant.names, names_next items i c.item-item.result c.loop-item-test.true c.item-item.is, names_of_part items (suc i))

pub loop-item-preserved : goal.loop-item-preserved
loop-item-preserved c = record {
  rows = λ t. rw add-one (
      c.put.ensures.rows t
      ∙ ap (λ o. cond (is_same_thing t c.item-item.result.0) (Some c.args.serial) o) (c.loop-item.invariant.rows t)
      ∙ touch_next
      (touch_in c.args.self.now.rows t) t c.args.serial c.args.items.now c.loop-item.item-index c.item-item.result c.loop-item-test.true c.item-item.is);
  things = omega arith;
  names =
      rw add-one
      (omega (arith, c.put.ensures.names, c.loop-item.invariant.names, names_next c.args.items.now c.loop-item.item-index c.item-item.result c.loop-item-test.true c.item-item.is));
}
