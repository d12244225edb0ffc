use Rattle.store_copy.proofs.TakeLemmas.{stores}
use Rattle.store_copy.proofs.copying.store_rows.Goals as goal

pub returns-in-Ok-clause-stores : goal.returns-in-Ok-clause-stores
returns-in-Ok-clause-stores g c =
    let read = c.in-Ok.ensures.reads in
    stores (g.K.Keeper.rows c.args.from.now) (g.D.Keeper.rows c.args.to.now) (g.D.Keeper.rows c.copy_rows-stored.new.to) c.in-Ok.desk.history c.copy_rows-stored.result read.0 read.1 c.copy_rows-stored.ensures.copies
