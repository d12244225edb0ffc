use Rattle.std.proofs.Common.{rules, ◌≡◌, sym, subst}
use Rattle.hall_core.specs.Seats.{SeatData}
use Rattle.edit_rules.specs.Verdicts.{Legal}
use Rattle.hall_server.specs.Completeness.{CompletesConnection}
use Rattle.hall_server.specs.Connections.{Serves}
use Rattle.hall_server.specs.Stands.{stand_of}
use Rattle.hall_server.proofs.connection.serve_link_with.Goals as goal

pub returns-clause-serves : goal.returns-clause-serves
returns-clause-serves g c =
    let last : c.seat-1.given.0 ≡ c.serve_requests_with.new.service.seat.now = search rules in
    subst
    (λ (s : SeatData). Serves c.args.access.now (stand_of c.args.seat.now) (stand_of s) (g.L.Link.input c.args.link.now) (g.L.Link.input c.serve_requests_with.new.link) (g.L.Link.output c.args.link.now) (g.L.Link.output c.serve_requests_with.new.link) c.serve_requests_with.result)
    (sym last) c.serve_requests_with.ensures.serves

pub returns-clause-legal : goal.returns-clause-legal
returns-clause-legal g c =
    let last : c.seat-1.given.0 ≡ c.serve_requests_with.new.service.seat.now = search rules in
    subst (λ (s : SeatData). Legal s.seen) (sym last) (c.serve_requests_with.ensures.serves.counts.grown.1 c.front-history.ensures.history.legal)

pub returns-clause-complete : goal.returns-clause-complete
returns-clause-complete g c =
    let last : c.seat-1.given.0 ≡ c.serve_requests_with.new.service.seat.now = search rules in
    subst
    (λ (s : SeatData). CompletesConnection c.args.access.now (stand_of c.args.seat.now) (stand_of s)
    (g.L.Link.read_faults c.args.link.now) (g.L.Link.read_faults c.serve_requests_with.new.link)
    (g.L.Link.write_faults c.args.link.now) (g.L.Link.write_faults c.serve_requests_with.new.link)
    (g.L.Link.input c.args.link.now) (g.L.Link.output c.args.link.now) (g.L.Link.output c.serve_requests_with.new.link) c.serve_requests_with.result)
    (sym last) c.serve_requests_with.ensures.complete
