use Rattle.std.proofs.Common.{◌≡◌, ◌+◌, ◌-◌, decimal, is_some}
use Rattle.std.specs.List.{list_all, range_with_len}
use Rattle.spice_out.specs.steps.FirstPins.{firsts_at, has_each}
use Rattle.spice_out.proofs.package_pins.has_each.Given as goal

abbrev pub invariant-loop-place : goal.invariant-loop-place
invariant-loop-place l =
    list_all (λ k. is_some (firsts_at l.firsts (decimal k))) (range_with_len (l.place + 1) (l.count - l.place))
    ≡ has_each l.count l.firsts
