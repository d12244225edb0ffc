use Rattle.std.proofs.Common.{sym, ◌∙◌, ap}
use Rattle.geda_text.specs.Lines.{fields_of}
use Rattle.geda_text.proofs.CuttingFields.{fields_of-blank}
use Rattle.geda_text.proofs.pieces.without_blanks.Goals as goal

pub loop-first-preserved : goal.loop-first-preserved
loop-first-preserved c = sym (fields_of-blank _ _ (sym c.is_blank.ensures ∙ c.if-not-is_blank.false)) ∙ ap fields_of (sym c.in-Some.ensures.cases.0) ∙ c.loop-first.invariant
