use Rattle.std.proofs.Common.{◌≡◌, ◌<◌, All, length, map, subst}
use Rattle.std.specs.Option.{option_to_list}
use Rattle.net_list.specs.declared.member.Member.{Member}
use Rattle.flat_rows.specs.Conductors.{FlatData}
use Rattle.flat_rows.specs.Keyed.{Keyed, keyed_from}
use Rattle.flat_rows.specs.Rows.{member_of}
use Rattle.flat_rows.proofs.RowLemmas.{members_below, members_tell}
use Rattle.flat_rows.proofs.flat.FlatRows.members.Goals as goal

pub returns-clause-members : goal.returns-clause-members
returns-clause-members c =
    let f = c.self.inside in
    rw c.deref.ensures.value (subst (λ (d : FlatData). map {B = Keyed Member} (λ m. (member_of d.parts m.0, m.1)) f.lists.members.items ≡ keyed_from (λ c. option_to_list c.member) 0 d.conductors)
    c.self.view_is (members_tell f.parts f.lists c.self.invariant))

pub returns-clause-parts : goal.returns-clause-parts
returns-clause-parts c =
    let f = c.self.inside in
    rw c.deref.ensures.value (subst (λ (d : FlatData). All (λ m. m.0.part < length d.parts) f.lists.members.items) c.self.view_is (members_below f.parts f.lists c.self.invariant))
