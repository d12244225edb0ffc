use Rattle.std.proofs.Common.{refl}
use Rattle.command_words.specs.Commands.{command_of}
use Rattle.outside.specs.Counts.{counts}
use Rattle.sinks.specs.Streams.{stream}
use Rattle.hall_server.specs.Serving.{outside}
use Rattle.store_copy.specs.Storing.{keepers}
use Rattle.gafd_run.specs.Writing.{folder_run}
use Rattle.gafd_run.proofs.EndingLemmas.{rows_stay, words_failed}
use Rattle.gafd_run.proofs.whole.run_command.Goals as goal

pub returns-in-Err-clause-end : goal.returns-in-Err-clause-end
returns-in-Err-clause-end g c =
    let files = g.F.Folder.files c.args.folder.now in
    let rows = g.D.Keeper.rows c.args.database.now in
    let failed = g.F.Folder.faults c.args.folder.now in
    let gate = g.G.Gate.faults c.args.gate.now in
    let written = g.O.Sink.written c.args.out.now in
    let lost = g.O.Sink.faults c.args.out.now in
    words_failed (outside (g.K.Keeper.never_fails c.args.keeper) (g.K.Keeper.rows c.args.keeper) (counts gate gate) (counts c.args.places.now.refused c.args.places.now.refused))
    (keepers (g.K.Keeper.never_fails c.args.keeper) (g.D.Keeper.never_fails c.args.database.now)
    (g.K.Keeper.rows c.args.keeper) rows rows)
    (folder_run files files (counts failed failed)) (command_of c.args.arguments.now) (stream written written (counts lost lost))
    (stream (g.E.Sink.written c.args.err.now) (g.E.Sink.written c.report.new.err) (counts (g.E.Sink.faults c.args.err.now) (g.E.Sink.faults c.report.new.err)))
    c.report.result c.in-Err.fault c.from.result c.from.ensures c.in-Err.ensures.asked refl refl refl c.report.ensures

pub returns-in-Err-clause-database : goal.returns-in-Err-clause-database
returns-in-Err-clause-database g c =
    rows_stay (command_of c.args.arguments.now) (g.D.Keeper.rows c.args.database.now)
