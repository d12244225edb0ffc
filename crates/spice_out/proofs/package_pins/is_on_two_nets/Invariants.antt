use Rattle.std.proofs.Common.{◌≡◌, drop}
use Rattle.std.specs.List.{list_any}
use Rattle.spice_out.specs.Pins.{first_at, is_elsewhere}
use Rattle.spice_out.proofs.package_pins.is_on_two_nets.Given as goal

abbrev pub invariant-loop-pin : goal.invariant-loop-pin
invariant-loop-pin l =
    list_any (λ p. is_elsewhere (first_at l.pins p.number) p.at) (drop l.pin-index l.pins)
    ≡ list_any (λ p. is_elsewhere (first_at l.pins p.number) p.at) l.pins
