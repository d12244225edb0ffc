use Rattle.std.proofs.Common.{sym, ◌∙◌}
use Rattle.geda_text.proofs.CuttingFields.{no_fields}
use Rattle.geda_text.proofs.pieces.FieldsIterator.next.Goals as goal

pub returns-then-is_empty-clause-steps : goal.returns-then-is_empty-clause-steps
returns-then-is_empty-clause-steps c = let e = sym c.self.view_is ∙ sym c.without_blanks-rest.ensures.same ∙ no_fields _ c.if-is_empty.ensures in (e, e)
