use Rattle.std.proofs.lemmas.Result.{err_from_is_err_and}
use Rattle.gafd_run.proofs.ExportLemmas.{sheet_exported, sheet_refused}
use Rattle.gafd_run.proofs.answer.sheet_export.Goals as goal

pub returns-in_err-sheet : goal.returns-in_err-sheet
returns-in_err-sheet c =
    let fault = err_from_is_err_and c.from_residual.result c.from_residual.ensures.1 in
    rw (fault.1, fault.2) (sheet_refused c.args.file.now c.args.bytes.now c.in_err-sheet.field-0.0 c.in_err-sheet.ensures)

pub returns : goal.returns
returns c = sheet_exported c.args.file.now c.args.bytes.now c.in_ok-sheet_text.field-0.items c.in_ok-sheet.sheet c.done.result c.in_ok-sheet.ensures c.in_ok-sheet_text.ensures.text c.done.ensures
