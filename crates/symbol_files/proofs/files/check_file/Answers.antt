use Rattle.std.proofs.Common.{ℕ, List, None, Some, Ok, Err, refl, sym, subst, ap, ◌∙◌}
use Rattle.geda_grammar.specs.Faults.{symbol_file}
use Rattle.project_files.specs.declared.fault.FileFault.TheVariants as faults
use Rattle.project_files.specs.FileReads.{ReadAs}
use Rattle.project_files.specs.ProjectFiles.{IsAnswer}
use Rattle.project_files.proofs.Passing.{answer_from}
use Rattle.project_files.proofs.Reading.{bytes_in, of_read}
use Rattle.symbol_files.specs.CheckedFiles.{FileChecksFrom, FileChecksTo, IsCheckOf}
use Rattle.symbol_files.proofs.CheckLemmas.{check_whole}
use Rattle.symbol_files.proofs.files.check_file.Goals as goal

pub returns-in-Some-clause-read : goal.returns-in-Some-clause-read
returns-in-Some-clause-read g c =
    let name = c.args.name.now in
    let files = g.F.Folder.files c.args.folder.now in
    answer_from _ (ReadAs symbol_file (faults.Refused name) (IsCheckOf name) c.in-Some.bytes.items) (FileChecksFrom files name) c.checked_in.result
    (λ r h. of_read bytes_in name c.as_str.result.now files (Some c.in-Some.bytes) c.read.result (λ file. FileChecksTo name file r) c.as_str.ensures.text (c.in_ok-bytes.was ∙ ap Ok c.in-Some.is) (check_whole name r) c.read.ensures.file h)
    (subst (λ (bytes : List ℕ). IsAnswer (ReadAs symbol_file (faults.Refused name) (IsCheckOf name) bytes) c.checked_in.result) c.deref.ensures.value c.checked_in.ensures)

pub returns-in_ok-clone-in-None-clause-read : goal.returns-in_ok-clone-in-None-clause-read
returns-in_ok-clone-in-None-clause-read g c =
    let name = c.args.name.now in
    let files = g.F.Folder.files c.args.folder.now in
    subst (λ (n : List ℕ). FileChecksFrom files name (Err (faults.Missing n))) (sym c.in_ok-clone-in-None.ensures.cases)
    (of_read bytes_in name c.as_str.result.now files None c.read.result (λ file. FileChecksTo name file (Err (faults.Missing name))) c.as_str.ensures.text (c.in_ok-bytes.was ∙ ap Ok c.in-None.is) (check_whole name (Err (faults.Missing name))) c.read.ensures.file refl)
