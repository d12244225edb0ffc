use Rattle.hall_server.proofs.SeatReports.{refused_look}
use Rattle.hall_server.proofs.seat_reports.report_in_look.Goals as goal

pub returns-in-None : goal.returns-in-None
returns-in-None g c =
    let none = c.in-None.ensures in
    refused_look c.args.seat.now c.look_whole-told.new.self c.args.least c.args.what.now none.none.0 none.losses none.none.1 none.later
