use Rattle.std.proofs.Common.{◌≡◌, ap, sym, subst, ◌∙◌}
use Rattle.edit_desk.specs.Desks.{DeskView}
use Rattle.project_model.specs.Changes.{put}
use Rattle.edit_rules.specs.Histories.{project}
use Rattle.edit_rules.specs.declared.verdict.Verdict.TheVariants.{Accept}
use Rattle.conductor_counts.specs.Conductors.{conductors}
use Rattle.hall_core.specs.Histories.{IsJudged}
use Rattle.hall_core.proofs.HistoryLemmas.{judged_project}
use Rattle.hall_core.proofs.desk_budget.BudgetDesk.commit.Goals as goal

pub invariant_of-self : goal.invariant_of-self
invariant_of-self c =
    let accepted = subst (λ (d : DeskView). IsJudged d.history c.args.entry (Accept c.args.change)) (sym c.self.view_is) (record { is = c.requires.accepted }) in
    let counted = subst (λ (d : DeskView). c.args.count ≡ conductors (put (project d.history) c.args.change.items)) (sym c.self.view_is) c.requires.count in
    counted ∙ ap conductors (sym (ap project c.commit.ensures.appended ∙ judged_project _ c.args.entry c.args.change accepted))

pub commit-requires-clause-accepted : goal.commit-requires-clause-accepted
commit-requires-clause-accepted c =
    (subst (λ (d : DeskView). IsJudged d.history c.args.entry (Accept c.args.change)) (sym c.self.view_is) (record { is = c.requires.accepted })).is
