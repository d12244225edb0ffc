use Rattle.std.proofs.Common.{List, ℕ, ap, sym, ◌∙◌}
use Rattle.gaf_work.specs.DrawnSteps.{id_at}
use Rattle.gaf_work.proofs.IdsBelow.{owed}
use Rattle.gaf_work.proofs.RowIds.{id_has_row}
use Rattle.gaf_work.proofs.steps.deletion.Goals as goal

pub returns-in_ok-one-in-Some-clause-can_apply :
    goal.returns-in_ok-one-in-Some-clause-can_apply
returns-in_ok-one-in-Some-clause-can_apply c = λ p has same.
    let at = ap (λ (ids : List ℕ). id_at ids c.args.q) (sym same) ∙ sym c.at.ensures ∙ c.in-Some.is in
    let live = id_has_row p.objects c.args.q c.in-Some.id at in
    c.in_ok-one-in-Some.ensures.can_apply (owed p c.in-Some.id has.room has.below live)
