use Rattle.std.proofs.Common.{◌≡◌, ◌++◌, ◌∷◌, [], Ok, Option, ap, sym, subst, ◌∙◌, length, length-append, arith, IfSome, List}
use mathlib.Core.List.{IsPrefix}
use Rattle.project_model.specs.declared.change.Change.{Change}
use Rattle.edit_entries.specs.Entries.{EntryData}
use Rattle.edit_rules.specs.Verdicts.{verdict}
use Rattle.edit_rules.specs.declared.verdict.Verdict.TheVariants.{Accept}
use Rattle.hall_log.proofs.HistoryLemmas.{follow_short}
use Rattle.hall_core.specs.steps.NextRows.{FindsRow}
use Rattle.hall_core.proofs.HistoryLemmas.{may_follow}
use Rattle.hall_core.proofs.rows.take_row.Goals as goal

pub commit-requires-clause-accepted : goal.commit-requires-clause-accepted
commit-requires-clause-accepted g c =
    let found = subst (λ (o : Option (EntryData × Change)). FindsRow (g.K.Keeper.rows c.args.keeper.now) c.args.desk.now.history (Ok o)) c.in-Ok-Some.field-0-is c.in-Ok-Some.ensures.finds in
    subst (λ (l : List EntryData). verdict l c.in-Ok-Some.entry ≡ Accept c.in-Ok-Some.change) (sym c.reserve.ensures.same) found.0

pub returns-else-is_err-clause-takes : goal.returns-else-is_err-clause-takes
returns-else-is_err-clause-takes g c =
    let found = subst (λ (o : Option (EntryData × Change)). FindsRow (g.K.Keeper.rows c.args.keeper.now) c.args.desk.now.history (Ok o)) c.in-Ok-Some.field-0-is c.in-Ok-Some.ensures.finds in
    let grown : c.commit.new.self.history ≡ c.args.desk.now.history ++ c.in-Ok-Some.entry ∷ [] = c.commit.ensures.appended ∙ ap (λ l. l ++ c.in-Ok-Some.entry ∷ []) c.reserve.ensures.same in (
      omega (arith, ap length grown, length-append c.args.desk.now.history (c.in-Ok-Some.entry ∷ [])),
      follow_short _ _ (may_follow _ _ _ (record { is = found.0 })),
      subst (λ l. IfSome (g.K.Keeper.rows c.args.keeper.now) (λ all. IsPrefix c.args.desk.now.history all → IsPrefix l all)) (sym grown) found.1,
    )
