use Rattle.std.proofs.lemmas.Result.{err_from_is_err_and}
use Rattle.symbol_files.proofs.CheckLemmas.{refused}
use Rattle.symbol_files.proofs.files.checked_in.Goals as goal

pub returns-in_err-symbol : goal.returns-in_err-symbol
returns-in_err-symbol c =
    let fault = err_from_is_err_and c.from_residual.result c.from_residual.ensures.1 in
    rw (fault.1, fault.2) (refused c.args.name.now c.args.bytes.now c.in_err-symbol.field-0.0 c.in_err-symbol.ensures)
