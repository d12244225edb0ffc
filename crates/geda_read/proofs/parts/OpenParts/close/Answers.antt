use Rattle.std.proofs.Common.{sym, refl, ◌∙◌}
use Rattle.geda_model.specs.Shapes.{PartData}
use Rattle.geda_model.specs.declared.shape.Shape.{Shape}
use Rattle.geda_grammar.specs.steps.Sheets.{make_part}
use Rattle.geda_read.proofs.LastOnes.{all_closed, not_closed}
use Rattle.geda_read.proofs.parts.OpenParts.close.Goals as goal

pub returns-then-is_open : goal.returns-then-is_open
returns-then-is_open c = rw (← c.self.view_is) (not_closed PartData Shape (λ p. p.shape) (λ p. p.attrs) make_part (λ p. refl) c.self.inside.items c.self.inside.tail c.self.invariant.last (sym c.is_open.ensures ∙ c.if-is_open.true))

pub returns : goal.returns
returns c = rw (← c.self.view_is) (all_closed PartData Shape (λ p. p.shape) (λ p. p.attrs) make_part (λ p. refl) c.self.inside.items c.self.inside.tail c.self.invariant.last (sym c.is_open.ensures ∙ c.if-is_open.false))
