use Rattle.hall_server.proofs.Responses.{shown_responds}
use Rattle.hall_server.proofs.respond.respond_report.Goals as goal

pub returns-clause-responds : goal.returns-clause-responds
returns-clause-responds g c =
    let s = c.report-shown.ensures in
    shown_responds _ _ c.args.least c.args.what.now c.args.closing _ c.report-shown.result c.write_shown.result s.grown s.shown c.write_shown.ensures s.losses s.refusals s.refused
