use Rattle.std.proofs.Common.{◌≡◌, sym, subst, ◌∙◌, IfSome}
use Rattle.std.specs.List.{slice_get}
use Rattle.edit_rules.specs.Verdicts.{verdict}
use Rattle.edit_rules.specs.declared.verdict.Verdict.TheVariants.{Accept}
use Rattle.hall_log.specs.Histories.{MayFollow}
use Rattle.hall_core.proofs.Reading.{taken, ended, refused}
use Rattle.hall_core.proofs.rows.next_row.Goals as goal

pub returns-in-Ok-None-clause-finds : goal.returns-in-Ok-None-clause-finds
returns-in-Ok-None-clause-finds g c =
    let row = subst (λ o. IfSome (g.K.Keeper.rows c.args.keeper.now) (λ all. o ≡ slice_get all c.front-serial.result)) c.in-Ok-None.field-0-is c.in-Ok-None.ensures.row in
    ended _ _ _ c.front-serial.ensures.length row

pub returns-in-Ok-Accept-clause-finds : goal.returns-in-Ok-Accept-clause-finds
returns-in-Ok-Accept-clause-finds g c =
    let row = subst (λ o. IfSome (g.K.Keeper.rows c.args.keeper.now) (λ all. o ≡ slice_get all c.front-serial.result)) c.in-Ok-Some.field-0-is c.in-Ok-Some.ensures.row in
    let ok : verdict c.args.desk.now.history c.in-Ok-Some.entry ≡ Accept c.in-Ok-Accept.change = sym c.in-Ok-Accept.ensures ∙ c.in-Ok-Accept.field-0-is in
    (ok, taken _ _ _ _ c.front-serial.ensures.length row)

pub returns-in-Ok-Repeat-clause-finds : goal.returns-in-Ok-Repeat-clause-finds
returns-in-Ok-Repeat-clause-finds g c =
    let row = subst (λ o. IfSome (g.K.Keeper.rows c.args.keeper.now) (λ all. o ≡ slice_get all c.front-serial.result)) c.in-Ok-Some.field-0-is c.in-Ok-Some.ensures.row in
    let not : ¬ (MayFollow c.args.desk.now.history c.in-Ok-Some.entry) = λ may. let x = sym c.in-Ok-Repeat.field-0-is ∙ (c.in-Ok-Repeat.ensures ∙ may.is) in absurd (cc x) in
    refused _ _ _ _ c.front-serial.ensures.length c.front-serial.ensures.legal not row

pub returns-in-Ok-Refused-clause-finds : goal.returns-in-Ok-Refused-clause-finds
returns-in-Ok-Refused-clause-finds g c =
    let row = subst (λ o. IfSome (g.K.Keeper.rows c.args.keeper.now) (λ all. o ≡ slice_get all c.front-serial.result)) c.in-Ok-Some.field-0-is c.in-Ok-Some.ensures.row in
    let not : ¬ (MayFollow c.args.desk.now.history c.in-Ok-Some.entry) = λ may. let x = sym c.in-Ok-Refused.field-0-is ∙ (c.in-Ok-Refused.ensures ∙ may.is) in absurd (cc x) in
    refused _ _ _ _ c.front-serial.ensures.length c.front-serial.ensures.legal not row
