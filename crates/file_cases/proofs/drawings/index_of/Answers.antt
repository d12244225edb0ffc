use Rattle.std.proofs.Common.{◌+◌, ap, sym, subst, ◌∙◌}
use Rattle.std.specs.FinMap.{insert}
use Rattle.file_cases.specs.steps.Drawings.{HasFirst}
use Rattle.file_cases.proofs.DrawingLemmas.{none_yet, one_more}
use Rattle.file_cases.proofs.drawings.index_of.Goals as goal

pub loop-place-init : goal.loop-place-init
loop-place-init c = subst (λ m. HasFirst m 0) (sym (ap (λ t. t.conductors) c.new-index.ensures.empty)) none_yet

pub loop-place-preserved : goal.loop-place-preserved
loop-place-preserved c =
    subst (λ m. HasFirst m (c.loop-place.place + 1))
    (sym (c.in_ok-insert.ensures.ok ∙ ap (λ k. insert c.loop-place.index.conductors k c.new.result) c.key.ensures))
    (one_more c.loop-place.index.conductors c.loop-place.place c.new.result c.loop-place.invariant)
