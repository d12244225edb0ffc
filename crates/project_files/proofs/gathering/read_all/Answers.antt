use Rattle.std.proofs.Common.{[], ◌∷◌, ◌++◌, Ok, Err, refl, arith}
use Rattle.std.proofs.lemmas.Result.{err_from_is_err_and}
use Rattle.geda_model.specs.Sheets.{SheetData}
use Rattle.geda_grammar.specs.Faults.{sheet_file}
use Rattle.project_files.specs.declared.fault.FileFault.TheVariants as faults
use Rattle.project_files.specs.FileReads.{ReadAs, WasRead}
use Rattle.project_files.specs.steps.Standing.{ReadsFrom}
use Rattle.project_files.specs.steps.Progress.{AskedData, Asks}
use Rattle.project_files.specs.steps.Asking.{AsksObjects}
use Rattle.project_files.proofs.Passing.{fault_from, fault_later}
use Rattle.project_files.proofs.AskingLemmas.{kept_on}
use Rattle.project_files.proofs.SheetLemmas.{all_read, done, found_turn, turn_ends, turn_fault, turn_passes}
use Rattle.project_files.proofs.gathering.read_all.Goals as goal

pub returns-in_err-sheet-clause-read : goal.returns-in_err-sheet-clause-read
returns-in_err-sheet-clause-read g c =
    let p = err_from_is_err_and c.from_residual-in_err-sheet.result c.from_residual-in_err-sheet.ensures.1 in
    let fault = c.in_err-sheet.field-0.0 in
    rw (p.1, p.2) (fault_from _ (ReadAs sheet_file (faults.Refused c.file.inside.name) WasRead c.deref.result.now)
    (ReadsFrom (g.F.Folder.files c.args.folder.now) c.args.names.now) fault
    (λ refused. turn_fault (found_turn c.next_waiting.new.self (Err fault) c.loop-file.invariant.stands c.in-Some.ensures
    c.file.view_is c.deref.ensures.value refused))
    c.in_err-sheet.ensures)

pub returns-in_err-add_sheet-clause-read : goal.returns-in_err-add_sheet-clause-read
returns-in_err-add_sheet-clause-read g c =
    let p = err_from_is_err_and c.from_residual-in_err-add_sheet.result c.from_residual-in_err-add_sheet.ensures.1 in
    let asked : AskedData = c.next_waiting.new.self in
    let sheet : SheetData = c.in_ok-sheet.sheet in
    let fault = c.in_err-add_sheet.field-0.0 in
    rw (p.1, p.2) (fault_later (g.F.Folder.faults c.args.folder.now) (g.F.Folder.faults c.loop-file.folder) _
    (Asks (g.F.Folder.files c.loop-file.folder) asked (AsksObjects asked sheet.objects))
    (ReadsFrom (g.F.Folder.files c.args.folder.now) c.args.names.now) fault c.loop-file.invariant.later
    (turn_ends
    (found_turn asked (Ok sheet) c.loop-file.invariant.stands c.in-Some.ensures c.file.view_is c.deref.ensures.value c.in_ok-sheet.ensures)
    c.loop-file.invariant.kept fault)
    c.in_err-add_sheet.ensures.read)

pub returns-in_err-add_sheet-clause-files : goal.returns-in_err-add_sheet-clause-files
returns-in_err-add_sheet-clause-files g c = kept_on _ _ _ c.loop-file.invariant.kept c.in_err-add_sheet.ensures.files

pub loop-file-preserved : goal.loop-file-preserved
loop-file-preserved g c = record {
  read = c.loop-file.invariant.read ++ c.in-Some.file.name ∷ [];
  stands = turn_passes
      (found_turn c.next_waiting.new.self (Ok c.in_ok-sheet.sheet) c.loop-file.invariant.stands c.in-Some.ensures
      c.file.view_is c.deref.ensures.value c.in_ok-sheet.ensures)
      c.loop-file.invariant.kept c.add_sheet.new.asked c.add_sheet.new.sheets.items c.in_ok-add_sheet.ensures.read c.in_ok-add_sheet.ensures.sheets;
  kept = kept_on _ _ _ c.loop-file.invariant.kept c.in_ok-add_sheet.ensures.files;
  later = omega (arith, c.loop-file.invariant.later, c.in_ok-add_sheet.ensures.later);
}

pub returns-clause-read : goal.returns-clause-read
returns-clause-read g c = done c.next_waiting.new.self c.loop-file.invariant.stands c.in_default.ensures refl

pub returns-clause-whole : goal.returns-clause-whole
returns-clause-whole g c = all_read c.next_waiting.new.self c.loop-file.invariant.stands c.in_default.ensures refl
