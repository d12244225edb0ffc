use Rattle.std.proofs.Common.{◌≡◌, List, ℕ, None, Some, Result, Ok, Err, refl, subst, ap, ◌∙◌}
use Rattle.pin_matrix.specs.declared.level.Level.{Level}
use Rattle.pin_matrix.specs.MatrixFiles.{toml_document}
use Rattle.gafd_run.specs.declared.fault.RunFault.{RunFault}
use Rattle.gafd_run.specs.declared.fault.RunFault.TheVariants as faults
use Rattle.project_files.specs.FileReads.{FileComesTo}
use Rattle.gafd_run.specs.Answers.{matrix_of_document}
use Rattle.gafd_run.specs.steps.Checking.{MatrixFrom}
use Rattle.gafd_run.specs.steps.Passing.{ComesOf}
use Rattle.gafd_run.proofs.CheckLemmas.{matrix_whole, usual_matrix}
use Rattle.gafd_run.proofs.Passing.{answer_from}
use Rattle.project_files.proofs.Reading.{bytes_in, of_read}
use Rattle.gafd_run.proofs.answer.matrix_of.Goals as goal

pub returns-in_default-clause-matrix : goal.returns-in_default-clause-matrix
returns-in_default-clause-matrix g c =
    rw (c.in_default.is, c.usual.ensures) (usual_matrix (g.F.Folder.files c.args.folder.now))

pub returns-in-Some-2-clause-matrix : goal.returns-in-Some-2-clause-matrix
returns-in-Some-2-clause-matrix g c =
    let name = c.in-Some.file in
    let files = g.F.Folder.files c.args.folder.now in
    let Comes : List ℕ → Result (List Level) RunFault → Type 0 = λ bytes read. read ≡ matrix_of_document name (toml_document bytes) in
    rw c.in-Some.is
    (answer_from _ (Comes c.in-Some-2.bytes.items) (MatrixFrom files (Some name)) c.matrix_in.result
    (λ r h. of_read bytes_in name c.as_str.result.now files (Some c.in-Some-2.bytes) c.read.result (λ file. FileComesTo (faults.Missing name) Comes file r) c.as_str.ensures.text (c.in_ok-bytes.was ∙ ap Ok c.in-Some-2.is) (matrix_whole name r) c.read.ensures.file h)
    (subst (λ (bytes : List ℕ). ComesOf (Comes bytes) c.matrix_in.result) c.deref.ensures.value c.matrix_in.ensures))

pub returns-in-None-clause-matrix : goal.returns-in-None-clause-matrix
returns-in-None-clause-matrix g c =
    let name = c.in-Some.file in
    let files = g.F.Folder.files c.args.folder.now in
    let Comes : List ℕ → Result (List Level) RunFault → Type 0 = λ bytes read. read ≡ matrix_of_document name (toml_document bytes) in
    rw c.in-Some.is
    (of_read bytes_in name c.as_str.result.now files None c.read.result (λ file. FileComesTo (faults.Missing name) Comes file (Err (faults.Missing name))) c.as_str.ensures.text (c.in_ok-bytes.was ∙ ap Ok c.in-None.is) (matrix_whole name (Err (faults.Missing name))) c.read.ensures.file refl)
