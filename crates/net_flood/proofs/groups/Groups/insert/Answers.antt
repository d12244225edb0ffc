use Rattle.std.proofs.Common.{ap, subst, sym, ◌∙◌}
use Rattle.std.specs.FinMap.{get, remove}
use Rattle.net_flood.specs.Grouping.{Conductors, GroupsData}
use Rattle.net_flood.specs.steps.Kept.{AreGroups}
use Rattle.net_flood.specs.steps.Partition.{IsMember, Rows, members_of}
use Rattle.net_flood.proofs.KeptLemmas.{before_insert, invalidated, heads_kept, keys_kept, keys_without, kept_groups, taken_back, there_inserted}
use Rattle.net_flood.proofs.Outcomes.{ok_holds, on_err}
use Rattle.net_flood.proofs.groups.Groups.insert.Goals as goal

pub join_in-joined-requires-clause-there : goal.join_in-joined-requires-clause-there
join_in-joined-requires-clause-there c = there_inserted c.self.inside.index.conductors c.add.new.index.conductors c.args.key c.args.sealed c.in_ok-add.ensures.ok

pub join_in-joined-requires-clause-before : goal.join_in-joined-requires-clause-before
join_in-joined-requires-clause-before c =
    before_insert c.self.inside.index.conductors c.add.new.index.conductors c.args.key c.args.sealed c.self.inside.partition c.add.new.partition c.in_ok-add.ensures.ok
    (ap (λ (d : GroupsData). get d.conductors c.args.key) c.self.view_is ∙ c.requires.is_free) c.self.invariant.partition c.self.invariant.keys
    (c.self.invariant.groups (ap (λ (d : GroupsData). d.fresh) c.self.view_is ∙ c.requires.is_fresh)) c.add.ensures.members

pub remove-requires : goal.remove-requires
remove-requires c = record {
  is_there = there_inserted c.self.inside.index.conductors c.join_in-joined.new.index.conductors c.args.key c.args.sealed (c.join_in-joined.ensures.conductors ∙ c.in_ok-add.ensures.ok);
}

pub invariant_of-self-then-is_err : goal.invariant_of-self-then-is_err
invariant_of-self-then-is_err c =
    invalidated c.remove.new.self.conductors c.forget.new.self
    (keys_without c.join_in-joined.new.index.conductors c.remove.new.self.conductors c.args.key c.clear.new.self c.forget.new.self c.remove.ensures.removed
    (keys_kept c.join_in-joined.new.index.conductors c.join_in-joined.new.index.conductors c.join_in-joined.new.partition c.clear.new.self (λ i. c.join_in-joined.new.index.conductors)
    (keys_kept c.add.new.index.conductors c.join_in-joined.new.index.conductors c.add.new.partition c.join_in-joined.new.partition c.join_in-joined.ensures.conductors c.add.ensures.keys c.join_in-joined.ensures.keys)
    (heads_kept c.join_in-joined.new.partition c.clear.new.self c.clear.ensures.heads)) c.forget.ensures.heads)
    (λ h k m. c.clear.ensures.empty h k (subst (λ (rs : Rows). IsMember rs h k) c.forget.ensures.rows m))

pub returns-then-is_err-clause-err : goal.returns-then-is_err-clause-err
returns-then-is_err-clause-err c =
    let cs = c.self.inside.index.conductors in
    let key = c.args.key in
    on_err c.join_in-joined.result (taken_back cs c.remove.new.self.conductors key c.args.sealed
    (ap (λ (d : GroupsData). get d.conductors key) c.self.view_is ∙ c.requires.is_free)
    (c.remove.ensures.removed ∙ ap (λ (m : Conductors). remove m key) (c.join_in-joined.ensures.conductors ∙ c.in_ok-add.ensures.ok))
    ∙ ap (λ (d : GroupsData). d.conductors) c.self.view_is)

pub invariant_of-self-2 : goal.invariant_of-self-2
invariant_of-self-2 c =
    let ok = sym c.is_err.ensures.value ∙ c.if-is_err.false in
    let new = c.join_in-joined.new.partition in
    let same = c.join_in-joined.ensures.conductors in
    kept_groups c.join_in-joined.new.index.conductors new (ok_holds c.join_in-joined.result ok c.join_in-joined.ensures.partition)
    (keys_kept c.add.new.index.conductors c.join_in-joined.new.index.conductors c.add.new.partition new same c.add.ensures.keys c.join_in-joined.ensures.keys)
    (subst (λ (m : Conductors). AreGroups m (members_of new)) (sym same) (ok_holds c.join_in-joined.result ok c.join_in-joined.ensures.groups))
