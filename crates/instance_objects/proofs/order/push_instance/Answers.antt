use Rattle.instance_objects.proofs.OrderLemmas.{instance_rises}
use Rattle.instance_objects.proofs.order.push_instance.Goals as goal

pub returns-then-is_in_order-clause-order : goal.returns-then-is_in_order-clause-order
returns-then-is_in_order-clause-order c = λ keeps.
    instance_rises c.args.place c.args.instance.now c.args.ids.now c.args.listed.now.items c.as_slice.result.now c.push_ids.new.listed.items c.come_behind-is_behind.result
    c.requires.rising c.as_slice.ensures.value c.come_behind-is_behind.ensures c.in_ok-push_ids.ensures keeps (c.requires.order c.if-is_in_order.true)
