use Rattle.std.proofs.Common.{◌≤◌, Ok, Err, arith}
use Rattle.std.proofs.lemmas.Result.{err_from_is_err_and}
use Rattle.geda_model.specs.Sheets.{SheetData}
use Rattle.project_files.specs.steps.Reading.{SheetFrom}
use Rattle.project_files.specs.steps.Progress.{AskedData, Asks}
use Rattle.project_files.specs.steps.Asking.{AsksObjects}
use Rattle.project_files.specs.steps.Standing.{ReadsWords}
use Rattle.project_files.proofs.Passing.{fault_later}
use Rattle.project_files.proofs.AskingLemmas.{kept_on, stays}
use Rattle.project_files.proofs.SheetLemmas.{starts, turn_ends, turn_fault, turn_passes, word_turn}
use Rattle.project_files.proofs.gathering.read_words.Goals as goal

pub loop-name-init : goal.loop-name-init
loop-name-init g c = record {
  stands = starts (g.F.Folder.files c.args.folder.now) c.args.names.now c.args.asked.now c.args.sheets.now.items
      c.requires.start c.requires.none;
  kept = stays (g.F.Folder.files c.args.folder.now);
  later = omega arith;
}

pub returns-in_err-sheet-clause-read : goal.returns-in_err-sheet-clause-read
returns-in_err-sheet-clause-read g c =
    let p = err_from_is_err_and c.from_residual.result c.from_residual.ensures.1 in
    let fault = c.in_err-sheet.field-0.0 in
    rw (p.1, p.2) (fault_later (g.F.Folder.faults c.args.folder.now) (g.F.Folder.faults c.loop-name.folder) _
    (SheetFrom (g.F.Folder.files c.loop-name.folder) c.name-item.result)
    (ReadsWords (g.F.Folder.files c.args.folder.now) c.args.names.now) fault c.loop-name.invariant.later
    (λ from. turn_fault
    (word_turn _ (Err fault) c.requires.words (omega arith) c.name-item.is c.loop-name.invariant.stands c.loop-name.invariant.kept from))
    c.in_err-sheet.ensures.read)

pub returns-in_err-sheet-clause-files : goal.returns-in_err-sheet-clause-files
returns-in_err-sheet-clause-files g c = kept_on _ _ _ c.loop-name.invariant.kept c.in_err-sheet.ensures.files

pub returns-in_err-add_sheet-clause-read : goal.returns-in_err-add_sheet-clause-read
returns-in_err-add_sheet-clause-read g c =
    let p = err_from_is_err_and c.from_residual-in_err-add_sheet.result c.from_residual-in_err-add_sheet.ensures.1 in
    let asked : AskedData = c.loop-name.asked in
    let sheet : SheetData = c.in_ok-sheet.sheet in
    let fault = c.in_err-add_sheet.field-0.0 in
    let later : g.F.Folder.faults c.args.folder.now ≤ g.F.Folder.faults c.read_sheet_file.new.folder =
    omega (arith, c.loop-name.invariant.later, c.in_ok-sheet.ensures.later) in
    rw (p.1, p.2) (fault_later (g.F.Folder.faults c.args.folder.now) (g.F.Folder.faults c.read_sheet_file.new.folder) _
    (Asks (g.F.Folder.files c.read_sheet_file.new.folder) asked (AsksObjects asked sheet.objects))
    (ReadsWords (g.F.Folder.files c.args.folder.now) c.args.names.now) fault later
    (turn_ends
    (word_turn _ (Ok sheet) c.requires.words (omega arith) c.name-item.is c.loop-name.invariant.stands c.loop-name.invariant.kept c.in_ok-sheet.ensures.read)
    (kept_on _ _ _ c.loop-name.invariant.kept c.in_ok-sheet.ensures.files) fault)
    c.in_err-add_sheet.ensures.read)

pub returns-in_err-add_sheet-clause-files : goal.returns-in_err-add_sheet-clause-files
returns-in_err-add_sheet-clause-files g c =
    kept_on _ _ _ (kept_on _ _ _ c.loop-name.invariant.kept c.in_ok-sheet.ensures.files) c.in_err-add_sheet.ensures.files

pub loop-name-preserved : goal.loop-name-preserved
loop-name-preserved g c =
    let kept = kept_on _ _ _ c.loop-name.invariant.kept c.in_ok-sheet.ensures.files in
    record {
      stands = turn_passes
          (word_turn _ (Ok c.in_ok-sheet.sheet) c.requires.words (omega arith) c.name-item.is
          c.loop-name.invariant.stands c.loop-name.invariant.kept c.in_ok-sheet.ensures.read)
          kept c.add_sheet.new.asked c.add_sheet.new.sheets.items c.in_ok-add_sheet.ensures.read c.in_ok-add_sheet.ensures.sheets;
      kept = kept_on _ _ _ kept c.in_ok-add_sheet.ensures.files;
      later = omega (arith, c.loop-name.invariant.later, c.in_ok-sheet.ensures.later, c.in_ok-add_sheet.ensures.later);
    }
