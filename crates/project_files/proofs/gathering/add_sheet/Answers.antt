use Rattle.std.proofs.Common.{◌≡◌, List, Err, ap, subst, ◌∙◌, arith}
use Rattle.std.proofs.lemmas.Result.{err_from_is_err_and}
use Rattle.geda_model.specs.Sheets.{ObjectData, SheetData}
use Rattle.project_files.specs.steps.Progress.{AskedData, Asks}
use Rattle.project_files.specs.steps.Asking.{AsksObjects}
use Rattle.project_files.proofs.Passing.{fault_later}
use Rattle.project_files.proofs.gathering.add_sheet.Goals as goal

pub returns-in_err-ask_objects-clause-read : goal.returns-in_err-ask_objects-clause-read
returns-in_err-ask_objects-clause-read g c =
    let p = err_from_is_err_and c.from_residual.result c.from_residual.ensures.1 in
    let old : AskedData = c.args.asked.now in
    let files = g.F.Folder.files c.args.folder.now in
    let before = g.F.Folder.faults c.args.folder.now in
    let sheet : SheetData = c.args.sheet in
    let objects : c.as_slice.result.now ≡ sheet.objects = c.as_slice.ensures.objects ∙ ap (λ (s : SheetData). s.objects) c.sheet.view_is in
    rw (p.1, p.2) (fault_later before before _ (Asks files old (AsksObjects old c.as_slice.result.now)) (Asks files old (AsksObjects old sheet.objects)) c.in_err-ask_objects.field-0.0 (omega arith)
    (λ h. subst (λ (os : List ObjectData). Asks files old (AsksObjects old os) (Err c.in_err-ask_objects.field-0.0)) objects h)
    c.in_err-ask_objects.ensures.read)
