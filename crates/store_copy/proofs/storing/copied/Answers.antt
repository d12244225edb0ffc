use Rattle.store_copy.proofs.StoringLemmas.{copies, not_copied}
use Rattle.store_copy.proofs.storing.copied.Goals as goal

pub returns-in-Ok : goal.returns-in-Ok
returns-in-Ok g c =
    copies (g.K.Keeper.never_fails c.args.keeper.now) (g.D.Keeper.never_fails c.args.database.now)
    (g.K.Keeper.rows c.args.keeper.now) (g.D.Keeper.rows c.args.database.now)
    (g.D.Keeper.rows c.store_rows.new.to) c.in-Ok.count c.in-Ok.ensures.stores

pub returns-in-Err : goal.returns-in-Err
returns-in-Err g c =
    not_copied (g.K.Keeper.never_fails c.args.keeper.now)
    (g.D.Keeper.never_fails c.args.database.now) _ _
    (g.K.Keeper.rows c.args.keeper.now) (g.D.Keeper.rows c.args.database.now)
    (g.D.Keeper.rows c.store_rows.new.to) c.in-Err.fault c.from.result c.from.ensures
    c.in-Err.ensures.from_never c.in-Err.ensures.to_never c.in-Err.ensures.stores
