use Rattle.std.proofs.Common.{refl, sym}
use Rattle.geda_model.specs.Shapes.{PartIsInRange, part_with}
use Rattle.geda_model.proofs.LastLemmas.{all_fit, as_many, no_last, set_ok}
use Rattle.geda_model.proofs.shape.Parts.attach.Goals as goal
use Rattle.geda_model.proofs.shape.Parts.attach.Goals.{in-Some, in-None+in-There-1, in-None+in-Here-1}

pub invariant_of-self : goal.invariant_of-self
invariant_of-self c = elim c.match-last_mut.branch [
  | in-Some w ↦ rw w.self-inside-is (record { each = all_fit PartIsInRange _ _ _ w.attach.ensures.range c.self.invariant.each; few = as_many _ _ _ _ c.self.invariant.few })
  | in-None+in-There-1 w ↦ rw w.self-inside-is c.self.invariant
  | in-None+in-Here-1 w ↦ rw w.self-inside-is c.self.invariant
]

pub returns-clause-ok : goal.returns-clause-ok
returns-clause-ok c = elim c.match-last_mut.branch [
  | in-Some w ↦ rw (w.result-is, w.self-inside-is, sym c.self.view_is) (set_ok (part_with c.args.text) w.attach.result c.self.inside.list.items c.self.inside.list.len w.in-Some.part.now w.attach.new.self c.self.inside.list.ok.0 (w.in-Some.ensures.variant.0 refl) w.in-Some.ensures.value w.attach.ensures.ok)
  | in-None+in-There-1 w ↦ rw (w.result-is, w.self-inside-is, sym c.self.view_is) (no_last _ _ _ c.self.inside.list.ok.0 w.in-None.ensures.variant.1)
  | in-None+in-Here-1 w ↦ rw (w.result-is, w.self-inside-is, sym c.self.view_is) (no_last _ _ _ c.self.inside.list.ok.0 w.in-None.ensures.variant.1)
]
