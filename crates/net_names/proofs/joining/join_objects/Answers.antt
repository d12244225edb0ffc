use Rattle.sheet_groups.proofs.GroupLemmas.{groups_rise}
use Rattle.net_names.proofs.InstanceLemmas.{instance_groups}
use Rattle.net_names.proofs.joining.join_objects.Goals as goal

pub joined-requires-clause-groups : goal.joined-requires-clause-groups
joined-requires-clause-groups c =
    rw c.in_ok-flat.ensures.conductors (instance_groups c.args.objects.now c.args.groups.items c.requires.groups)

pub joined-requires-clause-rising : goal.joined-requires-clause-rising
joined-requires-clause-rising c = groups_rise c.args.objects.now c.args.groups.items c.requires.groups
