use Rattle.std.proofs.Common.{◌≡◌, ◌∙◌, ◌+◌, true, decimal, is_some, rules, sym}
use Rattle.spice_out.specs.steps.FirstPins.{firsts_at}
use Rattle.spice_out.proofs.CountLemmas.{all_next}
use Rattle.spice_out.proofs.package_pins.has_each.Goals as goal

pub loop-place-preserved : goal.loop-place-preserved
loop-place-preserved c =
    let firsts = c.args.firsts.now in
    let here : is_some (firsts_at firsts (decimal (c.loop-place.place + 1))) ≡ true = search rules in
    sym (all_next (λ k. is_some (firsts_at firsts (decimal k))) c.loop-place.place c.args.count c.loop-place-test.true here) ∙ c.loop-place.invariant
