use Rattle.hall_server.proofs.Answering.{answered, grown}
use Rattle.hall_server.proofs.seat_service.SeatServiceService.edit.Goals as goal

pub returns-clause-grown : goal.returns-clause-grown
returns-clause-grown g c =
    (grown c.args.self.now.seat.now c.edit-reply.new.seat c.args.entry c.edit-reply.result c.edit-reply.ensures.edits, λ legal. c.front-history.ensures.history.legal)

pub returns-clause-reply : goal.returns-clause-reply
returns-clause-reply g c =
    answered c.args.self.now.seat.now c.edit-reply.new.seat c.args.entry c.edit-reply.result c.edit-reply.ensures.edits
