use Rattle.std.proofs.Common.{ap, sym, ◌∙◌}
use Rattle.std.specs.FinMap as map
use Rattle.touch_index.proofs.MapLemmas.{drawn_less, indexed_less, one_gone}
use Rattle.touch_index.proofs.index.TouchIndex.remove.Goals as goal

pub invariant_of-self : goal.invariant_of-self
invariant_of-self c =
    let es = c.self.inside.conductors.entries in
    let fs = c.remove.new.self.entries in
    let updates = c.remove.ensures.updates.0 in (
      indexed_less es fs c.self.inside.grid c.leave.new.self c.args.key updates c.leave.ensures.rows c.leave.ensures.columns c.self.invariant.0,
      drawn_less es fs c.self.inside.grid c.leave.new.self c.args.key c.in-Some.conductor (sym c.remove.ensures.value ∙ c.in-Some.is) updates c.leave.ensures.only c.self.invariant.1,
    )

pub returns-in-Some-clause-removed : goal.returns-in-Some-clause-removed
returns-in-Some-clause-removed c =
    one_gone c.self.inside.conductors.entries c.remove.new.self.entries c.args.key c.remove.ensures.updates.0 ∙ ap (λ t. map.remove t.conductors c.args.key) c.self.view_is

pub returns-in_default-clause-removed : goal.returns-in_default-clause-removed
returns-in_default-clause-removed c =
    one_gone c.self.inside.conductors.entries c.remove.new.self.entries c.args.key c.remove.ensures.updates.0 ∙ ap (λ t. map.remove t.conductors c.args.key) c.self.view_is
