use Rattle.hall_server.proofs.Completing.{completes}
use Rattle.hall_server.proofs.messages.serve_requests_with.Goals as goal

pub returns-clause-complete : goal.returns-clause-complete
returns-clause-complete g c = let s = c.serve_messages-end.ensures in completes _ _ _ _ _ _ _ _ _ _ _ _ s.serves s.read_cause s.write_cause
