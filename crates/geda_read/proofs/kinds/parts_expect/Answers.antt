use Rattle.std.proofs.Common.{List, length, ltb, refl, ap, ◌∙◌}
use Rattle.geda_model.specs.Limits.{most_objects}
use Rattle.geda_model.specs.Shapes.{PartData}
use Rattle.geda_model.specs.declared.shape.Shape.{Shape}
use Rattle.geda_grammar.specs.steps.Sheets.{make_part}
use Rattle.geda_read.specs.steps.Expecting.{level_expects}
use Rattle.geda_read.specs.steps.Levels.{mode_of}
use Rattle.geda_read.proofs.LastOnes.{expected}
use Rattle.geda_read.proofs.kinds.parts_expect.Goals as goal

pub returns : goal.returns
returns c =
    rw (← c.parts.view_is) (c.level_expects.ensures ∙ ap (λ (l : List PartData). level_expects (mode_of c.parts.inside.tail) (ltb (length l) most_objects)) c.as_slice.ensures.parts ∙ expected PartData Shape (λ p. p.shape) (λ p. p.attrs) make_part (λ p. refl) most_objects c.parts.inside.items c.parts.inside.tail c.parts.invariant.last)
