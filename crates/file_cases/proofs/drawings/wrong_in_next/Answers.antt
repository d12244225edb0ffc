use Rattle.std.proofs.Common.{ap, sym, subst, ◌∙◌}
use Rattle.std.specs.FinMap.{remove}
use Rattle.file_cases.specs.steps.Drawings.{HasOthers}
use Rattle.file_cases.proofs.DrawingLemmas.{one_less}
use Rattle.file_cases.proofs.drawings.wrong_in_next.Goals as goal

pub first_wrong-requires : goal.first_wrong-requires
first_wrong-requires c =
    subst (λ m. HasOthers m 25 c.below-gone.result)
    (sym (c.remove.ensures.removed ∙ ap (λ k. remove c.in_ok-index.index.conductors k) c.key.ensures))
    (one_less c.in_ok-index.index.conductors 25 c.below-gone.result c.in_ok-index.ensures.first)
