use Rattle.std.proofs.Common.{ℕ, List, None, Some, Ok, Err, refl, sym, subst, ap, ◌∙◌}
use Rattle.geda_grammar.specs.Faults.{sheet_file}
use Rattle.project_files.specs.declared.fault.FileFault.TheVariants as faults
use Rattle.project_files.specs.FileReads.{ReadAs, WasRead}
use Rattle.project_files.specs.steps.Reading.{SheetFrom, SheetOf}
use Rattle.project_files.specs.ProjectFiles.{IsAnswer}
use Rattle.project_files.proofs.Passing.{answer_from}
use Rattle.project_files.proofs.Reading.{bytes_in, of_read, sheet_whole}
use Rattle.project_files.proofs.file_reads.read_sheet_file.Goals as goal

pub returns-in-Some-clause-read : goal.returns-in-Some-clause-read
returns-in-Some-clause-read g c =
    let name = c.args.name.now in
    let files = g.F.Folder.files c.args.folder.now in
    answer_from _ (ReadAs sheet_file (faults.Refused name) WasRead c.in-Some.bytes.items) (SheetFrom files name) c.sheet_in.result
    (λ r h. of_read bytes_in name c.as_str.result.now files (Some c.in-Some.bytes) c.read.result (λ file. SheetOf name file r) c.as_str.ensures.text (c.in_ok-bytes.was ∙ ap Ok c.in-Some.is) (sheet_whole name r) c.read.ensures.file h)
    (subst (λ (bytes : List ℕ). IsAnswer (ReadAs sheet_file (faults.Refused name) WasRead bytes) c.sheet_in.result) c.deref.ensures.value c.sheet_in.ensures)

pub returns-in_ok-clone-in-None-clause-read : goal.returns-in_ok-clone-in-None-clause-read
returns-in_ok-clone-in-None-clause-read g c =
    let name = c.args.name.now in
    let files = g.F.Folder.files c.args.folder.now in
    subst (λ (n : List ℕ). SheetFrom files name (Err (faults.Missing n))) (sym c.in_ok-clone-in-None.ensures.cases)
    (of_read bytes_in name c.as_str.result.now files None c.read.result (λ file. SheetOf name file (Err (faults.Missing name))) c.as_str.ensures.text (c.in_ok-bytes.was ∙ ap Ok c.in-None.is) (sheet_whole name (Err (faults.Missing name))) c.read.ensures.file refl)
