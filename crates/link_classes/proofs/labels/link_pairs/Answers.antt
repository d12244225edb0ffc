use Rattle.link_classes.proofs.LinkLemmas.{linked_spans}
use Rattle.link_classes.proofs.labels.link_pairs.Goals as goal

pub returns : goal.returns
returns c =
    rw (c.in_ok-extend_from_slice-2.ensures.items, c.deref-2.ensures.value, c.in_ok-extend_from_slice.ensures.items, c.deref.ensures.value)
    (linked_spans c.args.flat.now.conductors c.in_ok-pairs.pairs.items c.in_ok-names.names.items c.in_ok-ties.ties.items c.in_ok-pairs.ensures c.in_ok-names.ensures c.in_ok-ties.ensures)
