use Rattle.std.proofs.lemmas.Result.{err_from_is_err_and}
use Rattle.gafd_run.proofs.TableLemmas.{fill_done, fill_failed}
use Rattle.gafd_run.proofs.tables.filled_in.Goals as goal

pub returns-in_err-filled : goal.returns-in_err-filled
returns-in_err-filled c =
    let fault = err_from_is_err_and c.from_residual.result c.from_residual.ensures.1 in
    rw (fault.1, fault.2) (fill_failed c.args.desk.history c.args.sheet.now c.args.table.now c.args.bytes.now c.in_err-filled.field-0.0 c.in_err-filled.ensures)

pub returns : goal.returns
returns c = fill_done c.args.desk.history c.args.sheet.now c.args.table.now c.args.bytes.now c.in_ok-filled.filled c.in_ok-filled_down.field-0 c.in_ok-filled.ensures c.in_ok-filled_down.ensures
