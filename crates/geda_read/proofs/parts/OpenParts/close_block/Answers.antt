use Rattle.std.proofs.Common.{sym, refl, ◌∙◌}
use Rattle.geda_model.specs.Shapes.{PartData}
use Rattle.geda_model.specs.declared.shape.Shape.{Shape}
use Rattle.geda_grammar.specs.steps.Sheets.{make_part}
use Rattle.geda_read.proofs.LastOnes.{block_closed, no_block}
use Rattle.geda_read.proofs.parts.OpenParts.close_block.Goals as goal

pub returns-then-not-is_open-clause-taken : goal.returns-then-not-is_open-clause-taken
returns-then-not-is_open-clause-taken c = rw (← c.self.view_is) (no_block PartData Shape (λ p. p.shape) (λ p. p.attrs) make_part (λ p. refl) c.self.inside.items c.self.inside.tail c.self.invariant.last (sym c.is_open.ensures ∙ c.if-not-is_open.true))

pub returns-clause-taken : goal.returns-clause-taken
returns-clause-taken c = rw (← c.self.view_is) (block_closed PartData Shape (λ p. p.shape) (λ p. p.attrs) make_part (λ p. refl) c.self.inside.items c.self.inside.tail c.self.invariant.last (sym c.is_open.ensures ∙ c.if-not-is_open.false))
