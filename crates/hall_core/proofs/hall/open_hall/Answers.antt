use Rattle.hall_core.proofs.Opening.{opens_pen, all_new, none_lost}
use Rattle.hall_core.proofs.hall.open_hall.Goals as goal

pub invariant_of-pen : goal.invariant_of-pen
invariant_of-pen g c =
    rw c.new.ensures.keeper
    (opens_pen (g.K.Keeper.rows c.args.keeper) _ c.in_ok-desk.desk.history c.in_ok-published.published.history _ _ c.read_rows.ensures.rows c.in_ok-desk.ensures.reads.1 c.in_ok-published.ensures.published.0 c.new-2.ensures)

pub returns-clause-nothing : goal.returns-clause-nothing
returns-clause-nothing g c = none_lost c.in_ok-published.published.shown c.in-Ok.taken.items c.in-Ok.ensures.seen.0

pub returns-clause-seen : goal.returns-clause-seen
returns-clause-seen g c =
    all_new (g.K.Keeper.rows c.args.keeper) c.in_ok-desk.desk.history c.in_ok-published.published.shown c.in-Ok.taken.items c.in_ok-desk.ensures.reads.1 c.in_ok-desk.ensures.reads.0 c.in_ok-published.ensures.published.1 c.in-Ok.ensures.seen.0

pub returns-in-Err-clause-refused : goal.returns-in-Err-clause-refused
returns-in-Err-clause-refused g c = c.in-Err.ensures.rows (g.K.Keeper.rows c.args.keeper)
