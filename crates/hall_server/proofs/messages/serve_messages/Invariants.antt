use Rattle.std.proofs.Common.{◌≡◌, ◌≤◌}
use Rattle.hall_server.specs.Services.{stand}
use Rattle.hall_server.specs.steps.Responding.{SoFar}
use Rattle.hall_server.proofs.messages.serve_messages.Given as goal

abbrev pub invariant-loop-turn : goal.invariant-loop-turn
invariant-loop-turn g l =
    record {
      so_far : SoFar l.access (stand (g.S.Service.seen l.fn.service) (g.S.Service.losses l.fn.service) (g.S.Service.refusals l.fn.service)) (stand (g.S.Service.seen l.service) (g.S.Service.losses l.service) (g.S.Service.refusals l.service))
          (g.L.Link.input l.fn.link) (g.L.Link.input l.link) (g.L.Link.output l.fn.link) (g.L.Link.output l.link) l.buffer l.turn;
      later : g.L.Link.read_faults l.fn.link ≤ g.L.Link.read_faults l.link;
      write_later : g.L.Link.write_faults l.fn.link ≤ g.L.Link.write_faults l.link;
      same_reference : g.S.Service.reference l.service ≡ g.S.Service.reference l.fn.service;
    }
