use Rattle.std.proofs.Common.{rules, ap, ◌∙◌}
use Rattle.geda_write.specs.steps.Output.{more}
use Rattle.geda_write.specs.steps.Texts.{whole_text}
use Rattle.geda_write.proofs.Outputs.{more_nothing, more_next}
use Rattle.geda_write.proofs.objects.put_objects.Goals as goal

pub loop-object-init : goal.loop-object-init
loop-object-init g c = search (rules, more_nothing)

pub loop-object-preserved : goal.loop-object-preserved
loop-object-preserved g c =
    let got = g.O.Output.got c.loop-object.out in
    more_next whole_text c.args.objects.now c.loop-object.object-index c.object-item.result _ _ _ c.loop-object-test.true c.loop-object.invariant (c.in_ok-put_object.ensures ∙ ap (λ item. more got (whole_text item)) c.object-item.is)
