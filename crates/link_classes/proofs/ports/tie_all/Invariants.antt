use Rattle.std.proofs.Common.{◌≡◌, ◌++◌, drop}
use Rattle.std.specs.List.{flat_map}
use Rattle.link_classes.specs.steps.PortPlaces.{place_of, port_pair}
use Rattle.link_classes.proofs.ports.tie_all.Given as goal

abbrev pub invariant-loop-row : goal.invariant-loop-row
invariant-loop-row l =
    l.pairs.items ++ flat_map (port_pair (place_of l.places)) (drop l.row-index l.pins)
    ≡ l.fn.pairs.items ++ flat_map (port_pair (place_of l.places)) l.pins
