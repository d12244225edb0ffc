use Rattle.std.proofs.Common.{ap, subst, ◌∙◌}
use Rattle.net_flood.specs.Grouping.{Conductors, GroupsData, HasSize}
use Rattle.net_flood.specs.steps.Partition.{members_of}
use Rattle.net_flood.proofs.KeptLemmas.{size_is}
use Rattle.net_flood.proofs.groups.Groups.size_of.Goals as goal

pub returns : goal.returns
returns c = record {
  size = subst (λ (cs : Conductors). HasSize cs c.args.key c.size.result) (ap (λ (d : GroupsData). d.conductors) c.self.view_is)
      (size_is c.self.inside.index.conductors (members_of c.self.inside.partition) c.args.key c.size.result
      (c.self.invariant.groups (ap (λ (d : GroupsData). d.fresh) c.self.view_is ∙ c.requires.is_fresh)) c.size.ensures.size);
}
