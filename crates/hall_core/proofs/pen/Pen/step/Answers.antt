use Rattle.std.proofs.Common.{List, ap, refl, ◌∙◌, rules}
use Rattle.edit_entries.specs.Entries.{EntryData}
use Rattle.hall_core.specs.Histories.{first_id_at}
use Rattle.hall_core.specs.Pens.{PenData}
use Rattle.hall_core.proofs.Editing.{judged_at, steps_same}
use Rattle.hall_core.proofs.HistoryLemmas.{repeat_within}
use Rattle.hall_core.proofs.pen.Pen.step.Goals as goal

pub put-requires-clause-accepted : goal.put-requires-clause-accepted
put-requires-clause-accepted g c =
    judged_at _ _ _ _ _ (ap (λ (d : PenData). d.history) c.self.view_is) c.in-Ok-Accept.field-0-is c.in-Ok-Accept.ensures

pub first_id-requires : goal.first_id-requires
first_id-requires g c = repeat_within _ c.args.entry _ (judged_at _ _ _ _ _ refl c.in-Ok-Repeat.field-0-is c.in-Ok-Repeat.ensures)

pub returns-in-Ok-Accept : goal.returns-in-Ok-Accept
returns-in-Ok-Accept g c = steps_same c.args.self.now c.catch_up.new.self c.catch_up.ensures.same c.args.entry c.put.result c.put.new.self c.put.ensures

pub returns-in-Ok-Repeat : goal.returns-in-Ok-Repeat
returns-in-Ok-Repeat g c =
    let same = ap (λ (d : PenData). d.history) c.self.view_is in (
      judged_at _ _ _ _ _ (same ∙ c.catch_up.ensures.same.history) c.in-Ok-Repeat.field-0-is c.in-Ok-Repeat.ensures,
      c.catch_up.ensures.same.history,
      c.first_id.ensures ∙ ap (λ (l : List EntryData). first_id_at l c.in-Ok-Repeat.serial) same,
      (search rules, search rules, search rules, search rules),
      (search rules, search rules),
    )

pub returns-in-Ok-Refused : goal.returns-in-Ok-Refused
returns-in-Ok-Refused g c =
    let same = ap (λ (d : PenData). d.history) c.self.view_is in (
      judged_at _ _ _ _ _ (same ∙ c.catch_up.ensures.same.history) c.in-Ok-Refused.field-0-is c.in-Ok-Refused.ensures,
      c.catch_up.ensures.same.history,
      (search rules, search rules, search rules, search rules),
      (search rules, search rules),
    )
