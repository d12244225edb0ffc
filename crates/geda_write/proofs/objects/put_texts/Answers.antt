use Rattle.std.proofs.Common.{rules, ap, ◌∙◌}
use Rattle.geda_write.specs.steps.Output.{more}
use Rattle.geda_write.specs.steps.Texts.{text_text}
use Rattle.geda_write.proofs.Outputs.{more_nothing, more_next}
use Rattle.geda_write.proofs.objects.put_texts.Goals as goal

pub loop-text-init : goal.loop-text-init
loop-text-init g c = search (rules, more_nothing)

pub loop-text-preserved : goal.loop-text-preserved
loop-text-preserved g c =
    let got = g.O.Output.got c.loop-text.out in
    more_next text_text c.args.texts.now c.loop-text.text-index c.text-item.result _ _ _ c.loop-text-test.true c.loop-text.invariant (c.in_ok-put_text.ensures ∙ ap (λ item. more got (text_text item)) c.text-item.is)
