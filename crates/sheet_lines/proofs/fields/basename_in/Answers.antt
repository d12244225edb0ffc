use Rattle.std.proofs.Common.{sym, ◌∙◌, ap, subst, arith}
use Rattle.std.proofs.lemmas.Result.{err_from_is_err_and}
use Rattle.sheet_lines.specs.steps.Results.{Fails}
use Rattle.sheet_lines.specs.steps.Fields.{word_in}
use Rattle.sheet_lines.proofs.Names.{prefixed_fails, prefixed_word, plain_word, too_long}
use Rattle.sheet_lines.proofs.fields.basename_in.Goals as goal

pub returns-then-field-gt-MOST_WORD_BYTES-clause-given : goal.returns-then-field-gt-MOST_WORD_BYTES-clause-given
returns-then-field-gt-MOST_WORD_BYTES-clause-given c = too_long _ (omega arith)

pub returns-in_err-word-in-Some-clause-given : goal.returns-in_err-word-in-Some-clause-given
returns-in_err-word-in-Some-clause-given c =
    let p = err_from_is_err_and c.from_residual.result c.from_residual.ensures.1 in
    let is = c.in-Some.ensures.cases in
    let fails = subst (λ bs. Fails c.in_err-word-in-Some.field-0.0 (word_in bs)) is.1 c.in_err-word-in-Some.ensures in
    rw (p.1, p.2) (prefixed_fails c.args.field.now _ is.0 (omega arith) fails)

pub returns-in_ok-word-in-Some-clause-given : goal.returns-in_ok-word-in-Some-clause-given
returns-in_ok-word-in-Some-clause-given c =
    let is = c.in-Some.ensures.cases in
    prefixed_word c.args.field.now _ is.0 (omega arith) (ap word_in (sym is.1) ∙ c.in_ok-word-in-Some.ensures)

pub returns-in_ok-word-in-None-clause-embedded : goal.returns-in_ok-word-in-None-clause-embedded
returns-in_ok-word-in-None-clause-embedded c = plain_word _ _ c.in_ok-word-in-None.ensures c.in-None.ensures.cases
