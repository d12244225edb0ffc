use Rattle.std.proofs.Common.{subst, sym}
use Rattle.edit_entries.specs.Entries.{EntryIsInRange}
use Rattle.edit_rules.specs.declared.verdict.Verdict.TheVariants.{Accept}
use Rattle.hall_core.specs.Histories.{IsJudged}
use Rattle.hall_core.specs.steps.Publishing.{PublishedData}
use Rattle.hall_core.proofs.HistoryLemmas.{judged_can}
use Rattle.hall_core.proofs.published.PublishedDesk.reserve.Goals as goal

pub reserve-requires : goal.reserve-requires
reserve-requires g c =
    let judged = subst (λ (d : PublishedData). IsJudged d.history c.args.entry.now (Accept c.args.change.now)) (sym c.self.view_is) c.requires.accepted in
    record { can_apply = judged_can _ c.args.entry.now c.args.change.now c.self.invariant.history (subst EntryIsInRange c.entry.view_is c.entry.invariant) judged }
