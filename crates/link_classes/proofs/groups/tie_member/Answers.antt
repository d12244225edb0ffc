use Rattle.link_classes.specs.steps.GroupPlaces.{group_place, same_group}
use Rattle.link_classes.proofs.FirstPlaceLemmas.{ties_more}
use Rattle.link_classes.proofs.GroupLemmas.{same_group-Decides}
use Rattle.link_classes.proofs.groups.tie_member.Goals as goal

pub returns-in_ok-tie_group : goal.returns-in_ok-tie_group
returns-in_ok-tie_group c = λ keyed ties.
    rw (c.in-Some.is, c.in_ok-tie_group.ensures.pairs)
    (ties_more same_group same_group-Decides c.in-Some.group c.args.place (group_place c.args.first.now) (group_place c.tie_group.new.first) c.in_ok-tie_group.ensures.first c.args.pairs.now.items keyed ties)
