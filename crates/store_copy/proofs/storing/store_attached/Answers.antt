use Rattle.std.proofs.Common.{refl}
use Rattle.outside.specs.Counts.{counts}
use Rattle.sinks.specs.Streams.{stream}
use Rattle.store_copy.specs.Storing.{keepers}
use Rattle.store_copy.proofs.StoringLemmas.{stopped, told}
use Rattle.store_copy.proofs.storing.store_attached.Goals as goal

pub returns-in-Ok : goal.returns-in-Ok
returns-in-Ok g c =
    told (keepers (g.K.Keeper.never_fails c.args.keeper)
    (g.D.Keeper.never_fails c.args.database.now) (g.K.Keeper.rows c.args.keeper)
    (g.D.Keeper.rows c.args.database.now) (g.D.Keeper.rows c.copied.new.database))
    (stream (g.O.Sink.written c.args.out.now) (g.O.Sink.written c.told.new.out)
    (counts (g.O.Sink.faults c.args.out.now) (g.O.Sink.faults c.told.new.out)))
    c.in-Ok.count c.told.result c.in-Ok.ensures c.told.ensures

pub returns : goal.returns
returns g c =
    let written = g.O.Sink.written c.args.out.now in
    let lost = g.O.Sink.faults c.args.out.now in
    stopped (keepers (g.K.Keeper.never_fails c.args.keeper)
    (g.D.Keeper.never_fails c.args.database.now) (g.K.Keeper.rows c.args.keeper)
    (g.D.Keeper.rows c.args.database.now) (g.D.Keeper.rows c.copied.new.database))
    (stream written written (counts lost lost)) c.in-Err.fault c.in-Err.ensures refl
