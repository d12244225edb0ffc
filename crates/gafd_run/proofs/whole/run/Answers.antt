use Rattle.command_words.specs.Commands.{command_of}
use Rattle.outside.specs.Counts.{counts}
use Rattle.sinks.specs.Streams.{stream}
use Rattle.hall_server.specs.Serving.{outside}
use Rattle.store_copy.specs.Storing.{keepers}
use Rattle.gafd_run.specs.Writing.{folder_run}
use Rattle.gafd_run.proofs.EndingLemmas.{all_left}
use Rattle.gafd_run.proofs.whole.run.Goals as goal

pub returns-clause-complete : goal.returns-clause-complete
returns-clause-complete g c =
    let new = c.run_command.new in
    all_left (outside (g.K.Keeper.never_fails c.args.keeper) (g.K.Keeper.rows c.args.keeper) (counts (g.G.Gate.faults c.args.gate.now) (g.G.Gate.faults new.gate)) (counts c.args.places.now.refused new.places.refused))
    (keepers (g.K.Keeper.never_fails c.args.keeper) (g.D.Keeper.never_fails c.args.database.now)
    (g.K.Keeper.rows c.args.keeper) (g.D.Keeper.rows c.args.database.now)
    (g.D.Keeper.rows new.database))
    (folder_run (g.F.Folder.files c.args.folder.now) (g.F.Folder.files new.folder) (counts (g.F.Folder.faults c.args.folder.now) (g.F.Folder.faults new.folder)))
    (command_of c.args.arguments.now)
    (stream (g.O.Sink.written c.args.out.now) (g.O.Sink.written new.out) (counts (g.O.Sink.faults c.args.out.now) (g.O.Sink.faults new.out)))
    (stream (g.E.Sink.written c.args.err.now) (g.E.Sink.written new.err) (counts (g.E.Sink.faults c.args.err.now) (g.E.Sink.faults new.err)))
    c.run_command.result c.run_command.ensures.end
