use Rattle.std.proofs.Common.{◌≡◌, ◌∙◌, ◌≤◌, true, List, ap, arith, length, subst, sym}
use mathlib.Core.List.{IsPrefix}
use Rattle.edit_entries.specs.Entries.{EntryData}
use Rattle.hall_log.specs.Histories.{IsHistory}
use Rattle.web_requests.specs.Answers.{is_behind}
use Rattle.hall_server.specs.declared.shown.Shown.TheVariants.{Behind}
use Rattle.hall_server.proofs.SeatReports.{answered_look, refused_look}
use Rattle.hall_server.proofs.seat_reports.behind.Goals as goal

pub returns-then-not-learn : goal.returns-then-not-learn
returns-then-not-learn g c = λ what.
    let refused = c.if-not-learn.ensures.learned in
    refused_look c.args.seat.now c.learn.new.self c.args.least what refused.0 refused.1 refused.2 refused.3

pub returns : goal.returns
returns g c = λ what.
    let learned = c.if-not-learn.ensures.learned in
    let old = c.args.seat.now in
    let new = c.learn.new.self in
    let same = sym learned.0 in
    let later : old.refusals ≤ new.refusals = omega (arith, learned.3) in
    answered_look old new c.args.least what (Behind c.len.result)
    (subst (λ (h : List EntryData). IsPrefix old.seen h) same learned.1)
    (subst IsHistory same c.len.ensures.history)
    (c.len.ensures.length ∙ ap length same, subst (λ (h : List EntryData). is_behind c.args.least (length h) ≡ true) same c.requires)
    learned.2 later (λ e. cc e)
