use Rattle.hierarchy.proofs.OrderLemmas.{ways_in_order}
use Rattle.hierarchy.proofs.WayLemmas.{ways_inside}
use Rattle.hierarchy.proofs.elaboration.hierarchy_of.Goals as goal

pub instances_at-requires-clause-inside : goal.instances_at-requires-clause-inside
instances_at-requires-clause-inside c = rw (c.as_slice-2.ensures.value, c.in_ok-ways.ensures.all) (ways_inside c.args.sheets.now c.requires.sources)

pub instances_at-requires-clause-order : goal.instances_at-requires-clause-order
instances_at-requires-clause-order c = rw (c.as_slice-2.ensures.value, c.in_ok-ways.ensures.all) (ways_in_order c.args.sheets.now)

pub instances_at-requires-clause-once : goal.instances_at-requires-clause-once
instances_at-requires-clause-once c = rw (c.as_slice-2.ensures.value, c.in_ok-ways.ensures.all) c.requires.once
