use Rattle.std.proofs.Common.{◌≡◌, ◌+◌, ◌-◌, ◌∷◌, ◌++◌, decimal}
use Rattle.std.specs.List.{flat_map, range_with_len}
use Rattle.spice_out.specs.SpiceText.{node_text}
use Rattle.spice_out.specs.steps.FirstPins.{firsts_at}
use Rattle.spice_out.proofs.writing.put_pins.Given as goal

abbrev pub invariant-loop-place : goal.invariant-loop-place
invariant-loop-place l =
    l.out.items ++ flat_map (λ k. 32 ∷ node_text (firsts_at l.firsts (decimal k))) (range_with_len (l.place + 1) (l.count - l.place))
    ≡ l.fn.out.items ++ flat_map (λ k. 32 ∷ node_text (firsts_at l.firsts (decimal k))) (range_with_len 1 l.count)
