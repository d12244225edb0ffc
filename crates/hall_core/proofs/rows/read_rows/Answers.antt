use Rattle.std.proofs.Common.{Bool, Ok, refl, le_refl, subst}
use Rattle.hall_core.proofs.Reading.{never_err, none_yet, read_all}
use Rattle.hall_core.specs.steps.NextRows.{TakesRow}
use Rattle.hall_core.proofs.rows.read_rows.Goals as goal

pub rows-init : goal.rows-init
rows-init g c = (none_yet _ _ c.new-desk.ensures, refl, le_refl _, λ never. never)

pub returns-in-Err-clause-never : goal.returns-in-Err-clause-never
returns-in-Err-clause-never g c = λ never. never_err _ _ (c.in-Err.ensures.never (c.rows.invariant.3 never))

pub returns-clause-reads : goal.returns-clause-reads
returns-clause-reads g c =
    let ended = subst (λ (b : Bool). TakesRow (g.K.Keeper.rows c.rows.keeper) c.rows.desk.history (Ok b) c.take_row.new.desk.history) c.in-Ok-false.field-0-test c.in-Ok-false.ensures.takes in
    (c.front-history.ensures.legal, read_all _ _ _ _ c.rows.invariant.0 c.rows.invariant.1 ended)
