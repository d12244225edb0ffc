use Rattle.hall_server.specs.steps.KeptTexts.{what_of}
use Rattle.hall_server.proofs.SeatReports.{after_look, refused_look}
use Rattle.hall_server.proofs.seat_reports.kept_report.Goals as goal

pub returns-in_default : goal.returns-in_default
returns-in_default g c =
    let none = c.in_default.ensures in
    refused_look c.args.seat.now c.published.new.self c.args.least (what_of c.args.kind) none.same.0 none.same.1 none.none none.later

pub returns-then-len-wanted : goal.returns-then-len-wanted
returns-then-len-wanted g c =
    let same = c.published.ensures.same in
    after_look c.args.seat.now c.published.new.self c.behind.new.seat c.args.least (what_of c.args.kind) c.behind.result same.0 same.1 c.published.ensures.later (c.behind.ensures (what_of c.args.kind))

pub returns : goal.returns
returns g c =
    let same = c.published.ensures.same in
    after_look c.args.seat.now c.published.new.self c.kept_or_made.new.seat c.args.least (what_of c.args.kind) c.kept_or_made.result same.0 same.1 c.published.ensures.later c.kept_or_made.ensures
