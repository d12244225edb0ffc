use Rattle.std.proofs.Common.{arith}
use Rattle.edit_rules.proofs.Summing.{taken_more}
use Rattle.edit_rules.specs.Tallies.{weights_of}
use Rattle.edit_rules.proofs.weighing.taken_out.Goals as goal

pub loop-item-preserved : goal.loop-item-preserved
loop-item-preserved c =
    let more =
    taken_more
    (weights_of c.args.which) c.args.project.now.contents c.args.items.now c.loop-item.item-index c.item-item.result c.loop-item-test.true c.item-item.is in
    omega (arith, more, c.loop-item.invariant)
