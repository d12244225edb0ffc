use Rattle.std.proofs.Common.{[], List, take, subst, arith}
use Rattle.flat_rows.specs.Keyed.{Keyed}
use Rattle.flat_rows.specs.declared.conductors.PortPins.{PortPins}
use Rattle.link_classes.specs.steps.PortPlaces.{HasKeyed, place_of}
use Rattle.link_classes.proofs.ListLemmas.{taken_next}
use Rattle.link_classes.proofs.PortLemmas.{keyed_noted}
use Rattle.link_classes.proofs.ports.places_of.Goals as goal

pub loop-row-preserved : goal.loop-row-preserved
loop-row-preserved c =
    let pins = c.args.pins.now in
    let k = c.loop-row.row-index in
    let row = c.row-item.result in
    let old = place_of c.loop-row.places in
    let new = place_of c.note.new.places in
    subst (λ (ks : List (Keyed PortPins)). HasKeyed ks new) (taken_next [] pins k row (omega arith) c.row-item.is)
    (keyed_noted (take k pins) row.0 row.1 old new c.in_ok-note.ensures c.loop-row.invariant)
