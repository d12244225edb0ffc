use Rattle.std.proofs.lemmas.Result.{err_from_is_err_and}
use Rattle.gafd_run.proofs.ExportLemmas.{symbol_exported, symbol_refused}
use Rattle.gafd_run.proofs.answer.symbol_export.Goals as goal

pub returns-in_err-symbol : goal.returns-in_err-symbol
returns-in_err-symbol c =
    let fault = err_from_is_err_and c.from_residual.result c.from_residual.ensures.1 in
    rw (fault.1, fault.2) (symbol_refused c.args.file.now c.args.bytes.now c.in_err-symbol.field-0.0 c.in_err-symbol.ensures)

pub returns : goal.returns
returns c = symbol_exported c.args.file.now c.args.bytes.now c.in_ok-symbol_text.field-0.items c.in_ok-symbol.symbol c.done.result c.in_ok-symbol.ensures c.in_ok-symbol_text.ensures.text c.done.ensures
