use Rattle.std.proofs.Common.{rules, ap, ap₂, ◌∙◌, ◌≡◌, None, Some, option_copied, true, []}
use Rattle.option_words.specs.steps.Apps.{app, value_rule, words_rule}
use Rattle.std.proofs.lemmas.Result.{IfOk-weaker}
use Rattle.clap.specs.Words.{app_of, rule_of, with_rule}
use Rattle.clap.specs.Simple.{app_of_fields, on_top}
use Rattle.option_words.proofs.parts.command.Goals as goal

pub returns-in-Some : goal.returns-in-Some
returns-in-Some c =
    let words_is : rule_of c.action-words.result ≡ words_rule = search rules in
    let value_is : rule_of c.long.result ≡ value_rule c.in-Some.name.now = search rules in
    let plain_is : app_of c.disable_help_flag.result ≡ record (app None) { top = record (app None).top { rules = [] } } =
    ap app_of_fields c.disable_help_flag.ensures
    ∙ ap (λ f. app_of_fields (record f { disable_help_flag = true })) c.no_binary_name.ensures
    ∙ ap (on_top (λ s. record s { no_binary_name = true; disable_help_flag = true })) c.new-2.ensures.app in
    let first_is : app_of c.in_ok-command.command ≡ app None = c.in_ok-command.ensures.shape (search rules) ∙ ap₂ with_rule plain_is words_is in
    let option_is : Some c.in-Some.name.now ≡ option_copied c.args.option = search rules in
    IfOk-weaker c.arg-in-Some.result _ _ (λ m h. h.shape (search rules) ∙ ap₂ with_rule first_is value_is ∙ ap app option_is) c.arg-in-Some.ensures
