use Rattle.std.proofs.Common.{ap, sym, subst, ◌∙◌, ◌≡◌, Some, map, option_copied, string_bytes}
use Rattle.option_words.specs.steps.Apps.{app, fault_by, parts_in}
use Rattle.clap.specs.Words.{App, HasKind, app_of, fault_of, is_simple, is_simple_and_free, kind_of}
use Rattle.clap.specs.Simple.{matches_of}
use Rattle.option_words.proofs.Reading.{is_free_app, is_simple_app, refuses, taken}
use Rattle.option_words.specs.declared.fault.WordFault.TheVariants.{Usage}
use Rattle.option_words.proofs.parts.matches_of.Goals as goal

pub returns-in-Ok-clause-read : goal.returns-in-Ok-clause-read
returns-in-Ok-clause-read c =
    let o = option_copied c.args.option in
    let words = map string_bytes c.args.words.now in
    let is : app_of c.in_ok-command.command ≡ app o = c.in_ok-command.ensures in
    let none_of = ap (λ (a : App). fault_of a words) (sym is) ∙ c.in-Ok.ensures.kinds (ap is_simple_and_free is ∙ is_free_app o) in
    let rows = c.in-Ok.ensures.matches (ap is_simple is ∙ is_simple_app o) in
    taken o words c.requires none_of ∙ ap (λ (a : App). Some (parts_in (matches_of a words))) (sym is) ∙ ap (λ rs. Some (parts_in rs)) (sym rows.0)

pub returns-in-Err-clause-refused : goal.returns-in-Err-clause-refused
returns-in-Err-clause-refused c =
    let o = option_copied c.args.option in
    let words = map string_bytes c.args.words.now in
    let is : app_of c.in_ok-command.command ≡ app o = c.in_ok-command.ensures in
    let told = c.in-Err.ensures.kinds (ap is_simple_and_free is ∙ is_free_app o) in
    let among = subst (λ (a : App). HasKind (fault_of a words) c.in-Err.error) is told in
    λ usage.
    let is_usage : c.fault_by.result ≡ Usage = (let same = usage in cc) in
    refuses o words (kind_of c.in-Err.error) c.requires among (ap fault_by (sym c.kind.ensures) ∙ sym c.fault_by.ensures ∙ is_usage)
