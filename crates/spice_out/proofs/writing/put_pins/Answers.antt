use Rattle.std.proofs.Common.{◌∙◌, ◌∷◌, decimal}
use Rattle.spice_out.specs.SpiceText.{node_text}
use Rattle.spice_out.specs.steps.FirstPins.{firsts_at}
use Rattle.spice_out.proofs.CountLemmas.{texts_next}
use Rattle.spice_out.proofs.writing.put_pins.Goals as goal

pub loop-place-preserved : goal.loop-place-preserved
loop-place-preserved c =
    rw c.in_ok-put_pin.ensures
    (texts_next (λ k. 32 ∷ node_text (firsts_at c.args.firsts.now (decimal k))) c.loop-place.place c.args.count c.loop-place.out.items c.loop-place-test.true
    ∙ c.loop-place.invariant)
