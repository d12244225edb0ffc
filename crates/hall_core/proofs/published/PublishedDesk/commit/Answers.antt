use Rattle.std.proofs.Common.{sym, subst}
use Rattle.edit_entries.specs.Entries.{EntryIsInRange}
use Rattle.edit_rules.specs.declared.verdict.Verdict.TheVariants.{Accept}
use Rattle.hall_core.specs.Histories.{IsJudged}
use Rattle.hall_core.specs.steps.Publishing.{IsCaughtUp, PublishedData}
use Rattle.hall_core.proofs.Showing.{takes_in}
use Rattle.hall_core.proofs.published.PublishedDesk.commit.Goals as goal

pub commit-requires-clause-accepted : goal.commit-requires-clause-accepted
commit-requires-clause-accepted g c =
    (subst (λ (d : PublishedData). IsJudged d.history c.args.entry (Accept c.args.change)) (sym c.self.view_is) c.requires.accepted).is

pub invariant_of-self : goal.invariant_of-self
invariant_of-self g c =
    let judged = subst (λ (d : PublishedData). IsJudged d.history c.args.entry (Accept c.args.change)) (sym c.self.view_is) c.requires.accepted in
    let all = subst (λ (d : PublishedData). IsCaughtUp d) (sym c.self.view_is) c.requires.shown in
    rw c.commit.ensures.appended
    (takes_in _ _ _ _ _ c.args.entry c.args.change c.args.kept c.self.invariant all.0 all.1 judged (subst EntryIsInRange c.entry.view_is c.entry.invariant) c.requires.kept)
