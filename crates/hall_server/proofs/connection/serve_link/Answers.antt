use Rattle.hall_server.proofs.Served.{served_without}
use Rattle.hall_server.proofs.connection.serve_link.Goals as goal

pub returns-in_default-clause-serves : goal.returns-in_default-clause-serves
returns-in_default-clause-serves g c = served_without _ _ _ _
