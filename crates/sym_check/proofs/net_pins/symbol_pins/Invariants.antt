use Rattle.std.proofs.Common.{◌≡◌, ◌≤◌, ◌++◌, drop}
use Rattle.std.specs.Prelude.{filter}
use Rattle.sym_check.specs.CheckedPins.{checked_pins, is_net_pin, pins_from}
use Rattle.sym_check.proofs.net_pins.symbol_pins.Given as goal

abbrev pub invariant-loop-part : goal.invariant-loop-part
invariant-loop-part l = record {
  few : l.place ≤ l.part-index;
  rest : l.pins.items ++ pins_from l.place (filter is_net_pin (drop l.part-index l.parts)) ≡ checked_pins l.parts;
}
