use Rattle.std.proofs.Common.{◌≡◌, ◌++◌, ℕ, List, drop}
use Rattle.std.specs.List.{flat_map}
use Rattle.spice_out.specs.Pins.{pins_in}
use Rattle.spice_out.specs.steps.PinRows.{pins_at}
use Rattle.spice_out.proofs.pin_table.pins_by_refdes.Given as goal

abbrev pub invariant-loop-net : goal.invariant-loop-net
invariant-loop-net l = (q : List ℕ) → pins_at l.rows q ++ flat_map (pins_in q) (drop l.net-index l.nets) ≡ flat_map (pins_in q) l.nets
