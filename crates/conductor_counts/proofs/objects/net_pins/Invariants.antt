use Rattle.std.proofs.Common.{◌≡◌, ◌+◌, ◌≤◌, length, drop}
use Rattle.pin_place.specs.SymbolPins.{symbol_pins}
use Rattle.conductor_counts.proofs.objects.net_pins.Given as goal

abbrev pub invariant-loop-part : goal.invariant-loop-part
invariant-loop-part l =
    (l.count + length (symbol_pins (drop l.part-index l.parts)) ≡ length (symbol_pins l.parts)) × (l.count ≤ l.part-index)
