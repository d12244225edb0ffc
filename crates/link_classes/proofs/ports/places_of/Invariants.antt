use Rattle.std.proofs.Common.{take}
use Rattle.link_classes.specs.steps.PortPlaces.{HasKeyed, place_of}
use Rattle.link_classes.proofs.ports.places_of.Given as goal

abbrev pub invariant-loop-row : goal.invariant-loop-row
invariant-loop-row l = HasKeyed (take l.row-index l.pins) (place_of l.places)
