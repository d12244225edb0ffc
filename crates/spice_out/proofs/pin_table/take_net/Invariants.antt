use Rattle.std.proofs.Common.{◌≡◌, ◌++◌, ℕ, List, drop}
use Rattle.std.specs.List.{filter_map}
use Rattle.spice_out.specs.Pins.{pin_under}
use Rattle.spice_out.specs.steps.PinRows.{pins_at}
use Rattle.spice_out.proofs.pin_table.take_net.Given as goal

abbrev pub invariant-loop-member : goal.invariant-loop-member
invariant-loop-member l = (q : List ℕ)
    → pins_at l.rows q ++ filter_map (pin_under q l.noded.at) (drop l.member-index l.noded.net.members)
    ≡ pins_at l.fn.rows q ++ filter_map (pin_under q l.noded.at) l.noded.net.members
