use Rattle.std.proofs.Common.{ap, subst, sym, ◌∙◌}
use Rattle.std.specs.FinMap as map
use Rattle.touch_index.specs.steps.Drawn.{AreDrawn}
use Rattle.touch_index.specs.steps.Sifting.{Entries, conductor_at}
use Rattle.touch_index.proofs.GridLemmas.{on_ok}
use Rattle.touch_index.proofs.MapLemmas.{drawn_left, drawn_more, err_holds, get_key, indexed_left, ok_holds, one_put}
use Rattle.touch_index.proofs.index.TouchIndex.insert.Goals as goal

pub invariant_of-self : goal.invariant_of-self
invariant_of-self c =
    let es = c.self.inside.conductors.entries in
    let same = err_holds c.add-added.result (sym c.is_err.ensures.value ∙ c.if-is_err.true) c.add-added.ensures.err in
    let none = sym (get_key es c.args.key) ∙ ap (λ t. map.get t.conductors c.args.key) c.self.view_is ∙ c.requires.is_free in (
      indexed_left c.add-added.new.conductors.entries c.add-added.new.grid c.leave.new.self c.args.key (ap (λ (fs : Entries). conductor_at fs c.args.key) same ∙ none)
          c.leave.ensures.rows c.leave.ensures.columns c.add-added.ensures.indexed,
      subst (λ (fs : Entries). AreDrawn (conductor_at fs) c.leave.new.self) (sym same)
          (drawn_left (conductor_at es) c.self.inside.grid c.add-added.new.grid c.leave.new.self c.args.key c.open-conductor.result c.add-added.ensures.marks c.leave.ensures.only c.self.invariant.1),
    )

pub invariant_of-self-else-is_err : goal.invariant_of-self-else-is_err
invariant_of-self-else-is_err c =
    let es = c.self.inside.conductors.entries in
    let updates = ok_holds c.add-added.result (sym c.is_err.ensures.value ∙ c.if-is_err.false) c.add-added.ensures.ok in
    let none = sym (get_key es c.args.key) ∙ ap (λ t. map.get t.conductors c.args.key) c.self.view_is ∙ c.requires.is_free in (
      c.add-added.ensures.indexed,
      drawn_more es c.add-added.new.conductors.entries c.self.inside.grid c.add-added.new.grid c.args.key c.open-conductor.result none updates c.add-added.ensures.marks c.self.invariant.1,
    )

pub returns-else-is_err-clause-ok : goal.returns-else-is_err-clause-ok
returns-else-is_err-clause-ok c =
    on_ok c.add-added.result (λ updates same.
    one_put c.self.inside.conductors.entries c.add-added.new.conductors.entries c.args.key c.open-conductor.result updates
    ∙ ap (λ t. map.insert t.conductors c.args.key c.open-conductor.result) c.self.view_is
    ∙ ap (λ v. map.insert c.args.self.now.conductors c.args.key v) c.open-conductor.ensures) c.add-added.ensures.ok c.add-added.ensures.ok
