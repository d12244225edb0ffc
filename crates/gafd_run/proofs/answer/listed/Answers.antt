use Rattle.std.proofs.Common.{Ok, ap, ◌∙◌}
use Rattle.std.proofs.lemmas.Result.{err_from_is_err_and}
use Rattle.net_list.specs.declared.nets.Nets.{Nets}
use Rattle.gafd_run.specs.Answers.{Outcome, all_well, listed}
use Rattle.gafd_run.proofs.NetListLemmas.{by_list, nothing_listed}
use Rattle.gafd_run.proofs.answer.listed.Goals as goal

pub returns-in_err-nets : goal.returns-in_err-nets
returns-in_err-nets c =
    let p = c.args.project.contents in
    let end : Nets → Outcome = λ nets. Ok (listed c.args.form p nets) in
    let fault = err_from_is_err_and c.from_residual.result c.from_residual.ensures.1 in
    rw fault.1 (nothing_listed p end c.in_err-nets.field-0.0 fault.0 fault.2 c.in_err-nets.ensures)

pub returns : goal.returns
returns c =
    let p = c.args.project.contents in
    let end : Nets → Outcome = λ nets. Ok (listed c.args.form p nets) in
    by_list p end c.in_ok-nets.nets (Ok c.done.result) c.in_ok-nets.ensures (ap Ok (c.done.ensures ∙ ap all_well c.in_ok-text.ensures))
