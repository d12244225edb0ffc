use Rattle.std.proofs.Common.{subst, sym, ◌∙◌, arith}
use Rattle.project_model.specs.Items.{Item}
use Rattle.edit_rules.specs.HomeRows.{HasHome}
use Rattle.edit_rules.proofs.HomeLemmas.{home_here, rehomed, few_more}
use Rattle.edit_rules.proofs.RowLemmas.{home_stays}
use Rattle.edit_rules.proofs.rehoming.rehome_all.Goals as goal

pub rehome-requires-clause-here : goal.rehome-requires-clause-here
rehome-requires-clause-here c =
    λ n. home_here c.args.project.now.contents c.args.items.now c.loop-item.item-index c.item-item.result c.requires.distinct c.loop-item-test.true c.item-item.is n _
    (c.loop-item.invariant.counted n)

pub rehome-requires-clause-home : goal.rehome-requires-clause-home
rehome-requires-clause-home c =
    home_stays c.args.homes.now.rows c.loop-item.homes.rows c.loop-item.invariant.kept c.item-item.result
    (subst (λ (item : Item). HasHome c.args.homes.now.rows item) (sym c.item-item.is) (c.requires.home c.loop-item.item-index c.item-item.result c.loop-item-test.true))

pub loop-item-preserved : goal.loop-item-preserved
loop-item-preserved c = record {
  counted =
      λ n. rehomed c.args.project.now.contents c.args.items.now c.loop-item.item-index c.item-item.result c.requires.distinct c.loop-item-test.true c.item-item.is n _ _
      (c.loop-item.invariant.counted n) (c.rehome.ensures.moved n);
  few = λ n.
      let more =
      few_more c.args.project.now.contents c.args.items.now c.loop-item.item-index c.item-item.result c.requires.distinct c.loop-item-test.true c.item-item.is n in
      omega (arith, more, c.loop-item.invariant.few n);
  kept = λ n. c.rehome.ensures.kept n ∙ c.loop-item.invariant.kept n;
}
