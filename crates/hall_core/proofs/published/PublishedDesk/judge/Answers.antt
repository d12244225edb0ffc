use Rattle.std.proofs.Common.{IfOk, subst}
use Rattle.edit_desk.specs.Desks.{DeskView}
use Rattle.hall_core.specs.Histories.{IsJudged}
use Rattle.hall_core.specs.steps.Publishing.{PublishedData}
use Rattle.hall_core.proofs.HistoryLemmas.{judged}
use Rattle.hall_core.proofs.published.PublishedDesk.judge.Goals as goal

pub returns : goal.returns
returns g c =
    subst (λ (d : PublishedData). IfOk c.judge.result (λ v. IsJudged d.history c.args.entry.now v)) c.self.view_is
    (subst (λ (d : DeskView). IfOk c.judge.result (λ v. IsJudged d.history c.args.entry.now v)) c.desk.ensures
    (judged c.desk.result.now.history c.args.entry.now c.judge.result c.judge.ensures))
