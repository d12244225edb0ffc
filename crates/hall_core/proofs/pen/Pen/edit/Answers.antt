use Rattle.std.proofs.Common.{◌≡◌, ◌+◌, List, ap, min, sym, ◌∙◌, subst, rules}
use mathlib.Core.List.{IsPrefix}
use Rattle.edit_entries.specs.Entries.{EntryData}
use Rattle.keeper_core.specs.declared.reply.Reply.TheVariants as replies
use Rattle.hall_core.specs.Seats.{SeatData}
use Rattle.hall_core.specs.Pens.{PenData, Steps}
use Rattle.hall_core.proofs.Editing.{edits_done, edits_fault, edits_refused, edits_repeat}
use Rattle.hall_core.proofs.pen.Pen.edit.Goals as goal

pub returns-else-not-learn-2-clause-edits : goal.returns-else-not-learn-2-clause-edits
returns-else-not-learn-2-clause-edits g c =
    let learned = c.if-not-learn.ensures.learned in
    let seen : c.learn.new.self.seen ≡ c.catch_up.new.self.history = search rules in
    let begins : IsPrefix c.args.seat.now.seen c.learn.new.self.seen = subst (λ (l : List EntryData). IsPrefix c.args.seat.now.seen l) (sym learned.0) learned.1 in
    let again = c.if-not-learn-2.ensures.learned in
    let st : Steps c.catch_up.new.self c.args.entry (replies.Done c.in-Done.serial c.in-Done.first_id c.in-Done.front) c.step.new.self = c.in-Done.ensures in
    let shown : c.told-in-Done.result.now ≡ c.step.new.self.shown = c.told-in-Done.ensures ∙ ap (λ (d : PenData). d.shown) c.self-in-Done.view_is in
    let is : c.step.result ≡ replies.Done c.in-Done.serial c.in-Done.first_id c.in-Done.front = search rules in
    rw is
    (edits_done c.args.seat.now c.learn.new.self c.catch_up.new.self c.step.new.self c.args.entry seen begins c.learn-in-Done.new.self c.in-Done.serial c.in-Done.first_id c.in-Done.front
    (again.0 ∙ (shown ∙ st.4.0)) (again.2 ∙ learned.2) st)

pub returns-in-Repeat-clause-edits : goal.returns-in-Repeat-clause-edits
returns-in-Repeat-clause-edits g c =
    let learned = c.if-not-learn.ensures.learned in
    let seen : c.learn.new.self.seen ≡ c.catch_up.new.self.history = search rules in
    let begins : IsPrefix c.args.seat.now.seen c.learn.new.self.seen = subst (λ (l : List EntryData). IsPrefix c.args.seat.now.seen l) (sym learned.0) learned.1 in
    let is : c.step.result ≡ replies.Repeat c.in-Repeat.serial c.in-Repeat.first_id c.in-Repeat.front = search rules in
    rw is (edits_repeat c.args.seat.now c.learn.new.self c.catch_up.new.self c.step.new.self c.args.entry seen begins c.in-Repeat.serial c.in-Repeat.first_id c.in-Repeat.front learned.2 c.in-Repeat.ensures)

pub returns-in-Refused-clause-edits : goal.returns-in-Refused-clause-edits
returns-in-Refused-clause-edits g c =
    let learned = c.if-not-learn.ensures.learned in
    let seen : c.learn.new.self.seen ≡ c.catch_up.new.self.history = search rules in
    let begins : IsPrefix c.args.seat.now.seen c.learn.new.self.seen = subst (λ (l : List EntryData). IsPrefix c.args.seat.now.seen l) (sym learned.0) learned.1 in
    edits_refused c.args.seat.now c.learn.new.self c.catch_up.new.self c.step.new.self c.args.entry seen begins c.in-Refused.fault c.in-Refused.front learned.2 c.in-Refused.ensures

pub returns-in-KeeperFault-clause-edits : goal.returns-in-KeeperFault-clause-edits
returns-in-KeeperFault-clause-edits g c =
    let learned = c.if-not-learn.ensures.learned in
    let seen : c.learn.new.self.seen ≡ c.catch_up.new.self.history = search rules in
    let begins : IsPrefix c.args.seat.now.seen c.learn.new.self.seen = subst (λ (l : List EntryData). IsPrefix c.args.seat.now.seen l) (sym learned.0) learned.1 in
    let whole = ap (λ (d : SeatData). d.seen) c.seat.view_is in
    edits_fault c.args.seat.now
    (record { seen = c.seat.inside.seen; losses = c.charge.new.allowance.losses; refusals = c.seat.inside.door.refusals })
    c.catch_up.new.self c.step.new.self c.args.entry (whole ∙ seen)
    (subst (λ (l : List EntryData). IsPrefix c.args.seat.now.seen l) (sym whole) begins)
    c.in-KeeperFault.front
    (c.charge.ensures.losses ∙ ap (λ k. min (k + 1) 4294967295) (ap (λ (d : SeatData). d.losses) c.seat.view_is ∙ learned.2))
    c.in-KeeperFault.ensures
