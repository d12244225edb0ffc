use Rattle.std.proofs.Common.{◌≡◌, arith, ap, sym, subst, ◌∙◌}
use Rattle.std.specs.FinMap as finite
use Rattle.net_flood.specs.Grouping.{Conductors, GroupsData}
use Rattle.net_flood.specs.steps.Partition.{members_of}
use Rattle.net_flood.specs.steps.Kept.{AreGroups}
use Rattle.net_flood.proofs.KeptLemmas.{heads_kept, keys_kept, kept_groups}
use Rattle.net_flood.proofs.Outcomes.{ok_holds}
use Rattle.net_flood.proofs.groups.Groups.rebuild.Goals as goal

pub returns-then-is_err-clause-steps : goal.returns-then-is_err-clause-steps
returns-then-is_err-clause-steps c =
    let same : finite.len c.self.inside.index.conductors ≡ finite.len c.args.self.now.conductors = ap (λ (d : GroupsData). finite.len d.conductors) c.self.view_is in
    let asked : c.self.inside.index.asked ≡ c.args.self.now.asked = ap (λ (d : GroupsData). d.asked) c.self.view_is in
    let steps = c.group_all-grouped.ensures.steps in
    omega arith

pub returns-clause-steps : goal.returns-clause-steps
returns-clause-steps c =
    let same : finite.len c.self.inside.index.conductors ≡ finite.len c.args.self.now.conductors = ap (λ (d : GroupsData). finite.len d.conductors) c.self.view_is in
    let asked : c.self.inside.index.asked ≡ c.args.self.now.asked = ap (λ (d : GroupsData). d.asked) c.self.view_is in
    let steps = c.group_all-grouped.ensures.steps in
    omega arith

pub invariant_of-self-2 : goal.invariant_of-self-2
invariant_of-self-2 c =
    let cs = c.self.inside.index.conductors in
    let new = c.group_all-grouped.new.partition in
    let same = c.group_all-grouped.ensures.conductors in
    let ok = sym c.is_err.ensures.value ∙ c.if-is_err.false in
    kept_groups c.group_all-grouped.new.index.conductors new (ok_holds c.group_all-grouped.result ok c.group_all-grouped.ensures.partition)
    (keys_kept cs c.group_all-grouped.new.index.conductors c.clear.new.self new same
    (keys_kept cs cs c.self.inside.partition c.clear.new.self (λ i. cs) c.self.invariant.keys (heads_kept c.self.inside.partition c.clear.new.self c.clear.ensures.heads))
    c.group_all-grouped.ensures.keys)
    (subst (λ (m : Conductors). AreGroups m (members_of new)) (sym same) (ok_holds c.group_all-grouped.result ok c.group_all-grouped.ensures.groups))
