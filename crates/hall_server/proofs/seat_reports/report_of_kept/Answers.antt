use Rattle.std.proofs.Common.{◌≡◌, ◌∙◌, ◌≤◌, false, List, ap, arith, length, subst, sym}
use mathlib.Core.List.{IsPrefix}
use Rattle.edit_entries.specs.Entries.{EntryData}
use Rattle.hall_log.specs.Histories.{IsHistory}
use Rattle.hall_server.specs.steps.KeptTexts.{IsReportText, what_of}
use Rattle.web_requests.specs.Answers.{is_behind}
use Rattle.hall_server.specs.declared.shown.Shown.TheVariants.{Text}
use Rattle.hall_server.proofs.SeatReports.{answered_look, refused_look}
use Rattle.hall_server.proofs.seat_reports.report_of_kept.Goals as goal

pub returns-then-not-learn : goal.returns-then-not-learn
returns-then-not-learn g c =
    let refused = c.if-not-learn.ensures.learned in
    refused_look c.args.seat.now c.learn.new.self c.args.least (what_of c.args.kind) refused.0 refused.1 refused.2 refused.3

pub returns : goal.returns
returns g c =
    let learned = c.if-not-learn.ensures.learned in
    let old = c.args.seat.now in
    let new = c.learn.new.self in
    let same = sym learned.0 in
    let later : old.refusals ≤ new.refusals = omega (arith, learned.3) in
    answered_look old new c.args.least (what_of c.args.kind) (Text c.len.result c.args.body)
    (subst (λ (h : List EntryData). IsPrefix old.seen h) same learned.1)
    (subst IsHistory same c.len.ensures.history) (
      c.len.ensures.length ∙ ap length same,
      subst (λ (h : List EntryData). is_behind c.args.least (length h) ≡ false) same c.requires.enough,
      subst (λ (h : List EntryData). IsReportText h c.args.kind c.args.body) same c.requires.text,
    )
    learned.2 later (λ e. cc e)
