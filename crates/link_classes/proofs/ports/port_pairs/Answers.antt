use Rattle.link_classes.specs.steps.PortPlaces.{place_of}
use Rattle.link_classes.proofs.PortLemmas.{spans_ports}
use Rattle.link_classes.proofs.ports.port_pairs.Goals as goal

pub returns : goal.returns
returns c =
    let above = place_of c.in_ok-above.above in
    let below = place_of c.in_ok-below.below in
    rw (c.in_ok-tie_all-2.ensures, c.in_ok-tie_all.ensures, c.new-pairs.ensures.items)
    (spans_ports above below c.args.flat.now.conductors c.downs.result.now c.ups.result.now c.ups-2.result.now c.downs-2.result.now
    c.downs.ensures c.ups.ensures c.ups-2.ensures c.downs-2.ensures c.in_ok-above.ensures c.in_ok-below.ensures)
