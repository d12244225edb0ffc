use Rattle.std.proofs.Common.{◌≡◌, ◌+◌, ◌++◌, ◌∷◌, [], List, length, ap, sym, ◌∙◌, subst, rules, arith, length-append}
use Rattle.edit_entries.specs.Entries.{EntryData}
use Rattle.edit_rules.specs.Histories.{project}
use Rattle.edit_rules.specs.declared.verdict.Verdict.TheVariants.{Accept}
use Rattle.hall_core.specs.Histories.{IsJudged}
use Rattle.hall_core.proofs.HistoryLemmas.{first_id_last, may_follow}
use Rattle.hall_core.proofs.pen.Pen.put.Goals as goal

pub returns-in-Failed : goal.returns-in-Failed
returns-in-Failed g c = (
  may_follow c.args.self.now.history c.args.entry c.args.change c.requires.accepted,
  search rules,
  (search rules, search rules, search rules, search rules),
  search rules,
  search rules,
  search rules,
)

pub commit-serial-requires-clause-accepted : goal.commit-serial-requires-clause-accepted
commit-serial-requires-clause-accepted g c =
    let same : c.reserve.new.self.history ≡ c.args.self.now.history = search rules in
    subst (λ (l : List EntryData). IsJudged l c.args.entry (Accept c.args.change)) (sym same) c.requires.accepted

pub returns-in-Ok-catch_up : goal.returns-in-Ok-catch_up
returns-in-Ok-catch_up g c =
    let same : c.reserve.new.self.history ≡ c.args.self.now.history = search rules in
    let grown : c.catch_up.new.self.history ≡ c.args.self.now.history ++ c.args.entry ∷ [] = search rules in
    let serial : c.commit-serial.result ≡ length c.args.self.now.history = search rules in
    let long = ap length grown in
    let front : c.commit-serial.result + 1 ≡ length c.catch_up.new.self.history = omega (arith, long, serial, length-append c.args.self.now.history (c.args.entry ∷ [])) in (
      may_follow c.args.self.now.history c.args.entry c.args.change c.requires.accepted,
      grown,
      serial,
      c.next_id-first_id.ensures ∙ (ap (λ (l : List EntryData). (project l).next_id) same ∙ first_id_last c.args.self.now.history c.catch_up.new.self.history c.args.entry c.commit-serial.result grown serial),
      (search rules, search rules, search rules, front),
      (search rules, search rules),
    )

pub reserve-requires : goal.reserve-requires
reserve-requires g c =
    let same : c.self.inside.desk.history ≡ c.args.self.now.history = search rules in
    record { accepted = subst (λ (l : List EntryData). IsJudged l c.args.entry (Accept c.args.change)) (sym same) c.requires.accepted }
