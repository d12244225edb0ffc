use Rattle.std.proofs.lemmas.Result.{err_from_is_err_and}
use Rattle.gafd_run.proofs.NumberingLemmas.{numbering_done, numbering_failed}
use Rattle.gafd_run.proofs.answer.renumbered.Goals as goal

pub returns-in_err-renumbered : goal.returns-in_err-renumbered
returns-in_err-renumbered c =
    let fault = err_from_is_err_and c.from_residual.result c.from_residual.ensures.1 in
    rw (fault.1, fault.2) (numbering_failed c.args.measured.project.contents c.in_err-renumbered.field-0.0 c.in_err-renumbered.ensures)

pub returns : goal.returns
returns c = numbering_done c.args.measured.project.contents c.in_ok-renumbered.renumbered c.in_ok-written_down.field-0 c.in_ok-renumbered.ensures c.in_ok-written_down.ensures
