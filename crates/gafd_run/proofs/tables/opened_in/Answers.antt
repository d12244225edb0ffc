use Rattle.std.proofs.lemmas.Result.{err_from_is_err_and}
use Rattle.gafd_run.proofs.TableLemmas.{opens_done, opens_failed}
use Rattle.gafd_run.proofs.tables.opened_in.Goals as goal

pub returns-in_err-opened_file : goal.returns-in_err-opened_file
returns-in_err-opened_file c =
    let fault = err_from_is_err_and c.from_residual.result c.from_residual.ensures.1 in
    rw (fault.1, fault.2) (opens_failed c.args.sheet.now c.args.bytes.now c.in_err-opened_file.field-0.0 c.in_err-opened_file.ensures)

pub returns : goal.returns
returns c = opens_done c.args.sheet.now c.args.bytes.now c.in_ok-opened_file.field-0 c.in_ok-opened_file.ensures
