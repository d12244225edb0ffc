use Rattle.std.proofs.Common.{ℕ, [], ◌∷◌, ◌++◌, sym, ◌∙◌, ap}
use Rattle.std.proofs.lemmas.Bool.{ne_eqb}
use Rattle.geda_text.specs.Lines.{without_crs}
use Rattle.geda_text.proofs.LineEnds.{without_crs-cr, without_crs-other}
use Rattle.geda_text.proofs.cutter.without_crs.Goals as goal

pub loop-last-preserved : goal.loop-last-preserved
loop-last-preserved c =
    let is = c.in-Some.ensures.cases.0 ∙ ap (λ (last : ℕ). c.in-Some.before.now ++ last ∷ []) c.if-last-ne13.false in
    sym (ap without_crs is ∙ without_crs-cr c.in-Some.before.now) ∙ c.loop-last.invariant

pub returns-then-last-ne13 : goal.returns-then-last-ne13
returns-then-last-ne13 c =
    let is = c.in-Some.ensures.cases.0 in
    is ∙ sym (ap without_crs is ∙ without_crs-other _ _ (ne_eqb _ _ c.if-last-ne13.true)) ∙ c.loop-last.invariant
