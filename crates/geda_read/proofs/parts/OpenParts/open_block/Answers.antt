use Rattle.std.proofs.Common.{sym, refl, ◌∙◌}
use Rattle.geda_model.specs.Shapes.{PartData}
use Rattle.geda_model.specs.declared.shape.Shape.{Shape}
use Rattle.geda_grammar.specs.steps.Sheets.{make_part}
use Rattle.geda_read.proofs.LastOnes.{not_opened, open_stands, opened}
use Rattle.geda_read.proofs.parts.OpenParts.open_block.Goals as goal

pub returns-then-not-is_bare-clause-taken : goal.returns-then-not-is_bare-clause-taken
returns-then-not-is_bare-clause-taken c = rw (← c.self.view_is) (not_opened PartData Shape (λ p. p.shape) (λ p. p.attrs) make_part (λ p. refl) c.self.inside.items c.self.inside.tail c.self.invariant.last (sym c.is_bare.ensures ∙ c.if-not-is_bare.true))

pub invariant_of-self : goal.invariant_of-self
invariant_of-self c = open_stands PartData Shape (λ p. p.shape) (λ p. p.attrs) make_part (λ p. refl) c.self.inside.items c.self.inside.tail c.self.invariant (sym c.is_bare.ensures ∙ c.if-not-is_bare.false)

pub returns-clause-taken : goal.returns-clause-taken
returns-clause-taken c = rw (← c.self.view_is) (opened PartData Shape (λ p. p.shape) (λ p. p.attrs) make_part (λ p. refl) c.self.inside.items c.self.inside.tail c.self.invariant.last (sym c.is_bare.ensures ∙ c.if-not-is_bare.false))
