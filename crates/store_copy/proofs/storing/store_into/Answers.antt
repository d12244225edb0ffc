use Rattle.std.proofs.Common.{refl}
use Rattle.outside.specs.Counts.{counts}
use Rattle.sinks.specs.Streams.{stream}
use Rattle.store_copy.proofs.StoringLemmas.{after_database, no_database}
use Rattle.store_copy.proofs.storing.store_into.Goals as goal

pub returns-in-Ok : goal.returns-in-Ok
returns-in-Ok g c =
    let new = c.store_attached.new in
    after_database (g.K.Keeper.never_fails c.args.keeper)
    (g.D.Keeper.never_fails c.args.database.now) (g.D.Keeper.never_fails c.attach.new.self)
    (g.K.Keeper.rows c.args.keeper) (g.D.Keeper.rows c.args.database.now)
    (g.D.Keeper.rows c.attach.new.self) (g.D.Keeper.rows new.database)
    (stream (g.O.Sink.written c.args.out.now) (g.O.Sink.written new.out)
    (counts (g.O.Sink.faults c.args.out.now) (g.O.Sink.faults new.out)))
    c.store_attached.result c.in-Ok.ensures.rows (λ n. (c.in-Ok.ensures.never n).still)
    c.store_attached.ensures

pub returns-in-Err : goal.returns-in-Err
returns-in-Err g c =
    let written = g.O.Sink.written c.args.out.now in
    let lost = g.O.Sink.faults c.args.out.now in
    no_database (g.K.Keeper.never_fails c.args.keeper)
    (g.D.Keeper.never_fails c.args.database.now) (g.D.Keeper.never_fails c.attach.new.self)
    (g.K.Keeper.rows c.args.keeper) (g.D.Keeper.rows c.args.database.now)
    (g.D.Keeper.rows c.attach.new.self) (stream written written (counts lost lost))
    c.in-Err.fault c.from.result c.from.ensures c.in-Err.ensures.rows
    c.in-Err.ensures.never refl
