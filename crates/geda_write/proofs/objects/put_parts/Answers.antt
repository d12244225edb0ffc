use Rattle.std.proofs.Common.{rules, ap, ◌∙◌}
use Rattle.geda_write.specs.steps.Output.{more}
use Rattle.geda_write.specs.steps.Texts.{part_text}
use Rattle.geda_write.proofs.Outputs.{more_nothing, more_next}
use Rattle.geda_write.proofs.objects.put_parts.Goals as goal

pub loop-part-init : goal.loop-part-init
loop-part-init g c = search (rules, more_nothing)

pub loop-part-preserved : goal.loop-part-preserved
loop-part-preserved g c =
    let got = g.O.Output.got c.loop-part.out in
    more_next part_text c.args.parts.now c.loop-part.part-index c.part-item.result _ _ _ c.loop-part-test.true c.loop-part.invariant (c.in_ok-put_part.ensures ∙ ap (λ item. more got (part_text item)) c.part-item.is)
