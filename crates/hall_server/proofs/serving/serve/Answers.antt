use Rattle.outside.specs.Counts.{counts}
use Rattle.sinks.specs.Streams.{stream}
use Rattle.hall_server.proofs.ServingLemmas.{after_attaching}
use Rattle.hall_server.proofs.serving.serve.Goals as goal

pub returns : goal.returns
returns g c =
    let gate = counts (g.G.Gate.faults c.args.gate.now) (g.G.Gate.faults c.bind.new.self) in
    let places = counts c.args.places.now.refused c.serve_named.new.places.refused in
    let out = stream (g.O.Sink.written c.args.out.now) (g.O.Sink.written c.serve_named.new.out) (counts (g.O.Sink.faults c.args.out.now) (g.O.Sink.faults c.serve_named.new.out)) in
    after_attaching (g.K.Keeper.never_fails c.args.keeper) (g.K.Keeper.never_fails c.attach.new.self) (g.K.Keeper.rows c.args.keeper) (g.K.Keeper.rows c.attach.new.self) gate places out c.serve_named.result c.in_ok-attach.ensures.rows (λ n. (c.in_ok-attach.ensures.never n).still) (c.serve_named.ensures gate)
