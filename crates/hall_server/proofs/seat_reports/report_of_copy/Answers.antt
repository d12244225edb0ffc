use Rattle.std.proofs.Common.{rules, ◌≡◌, ◌∙◌, List, IfOk, ap, subst}
use Rattle.edit_entries.specs.Entries.{EntryData}
use Rattle.hall_server.specs.steps.KeptTexts.{what_of}
use Rattle.hall_server.proofs.SeatReports.{look_reported, refused_look, was_shown}
use Rattle.hall_server.proofs.seat_reports.report_of_copy.Goals as goal

pub returns-in-Some-default-Some : goal.returns-in-Some-default-Some
returns-in-Some-default-Some g c =
    let new = c.look_whole-copied.new.self in
    let told = c.in-Some-default-Some.ensures in
    let look = was_shown g.S.ShowsBoard.list c.wanted.result new.seen _ _ _ c.in-Some-default-Some.field-0-1-is told.answered in
    let called = look.1.answer in
    let copy : IfOk c.in-Some-default-Some.copied (λ copy. copy ≡ g.S.ShowsBoard.list called.0.now) = search rules in
    let copied : IfOk c.in-Some-default-Some.copied (λ copy. copy ≡ new.seen) =
    subst (λ (h : List EntryData). IfOk c.in-Some-default-Some.copied (λ copy. copy ≡ h)) (ap g.S.ShowsBoard.list called.2 ∙ look.1.shows) copy in
    look_reported c.args.seat.now new c.args.least (what_of c.args.kind) c.wanted.result c.in-Some-default-Some.front c.made_of.result c.shown.result
    told.seen told.history told.losses told.later c.wanted.ensures look.0 told.front (c.made_of.ensures new.seen copied) c.shown.ensures

pub returns-in-None : goal.returns-in-None
returns-in-None g c =
    let none = c.in-None.ensures in
    refused_look c.args.seat.now c.look_whole-copied.new.self c.args.least (what_of c.args.kind) none.none.0 none.losses none.none.1 none.later
