use Rattle.std.proofs.Common.{◌≡◌, ℕ, List, None, Some, Ok, Err, refl, sym, subst, ap, ◌∙◌}
use Rattle.std.proofs.lemmas.Result.{err_from_is_err_and}
use Rattle.project_files.specs.FileReads.{FileComesTo}
use Rattle.project_files.proofs.Reading.{bytes_in, of_read}
use Rattle.gafd_run.specs.Answers.{FillsTo, Outcome}
use Rattle.gafd_run.specs.Answers.{fill_outcome}
use Rattle.gafd_run.specs.declared.fault.RunFault.TheVariants as faults
use Rattle.gafd_run.specs.steps.Passing.{ComesOf}
use Rattle.gafd_run.proofs.Passing.{answer_from}
use Rattle.gafd_run.proofs.TableLemmas.{fills_whole, folder_failed}
use Rattle.gafd_run.proofs.tables.filled.Goals as goal

pub returns-in-Some-clause-answer : goal.returns-in-Some-clause-answer
returns-in-Some-clause-answer g c =
    let sheet = c.args.sheet.now in
    let table = c.args.table.now in
    let h = c.args.desk.history in
    let files = g.F.Folder.files c.args.folder.now in
    answer_from _ (λ (end : Outcome). end ≡ fill_outcome sheet table h c.in-Some.bytes.items) (FillsTo files sheet table h) c.filled_in.result
    (λ r is. of_read bytes_in table c.as_str.result.now files (Some c.in-Some.bytes) c.read.result (λ file. FileComesTo (faults.Missing table) (λ bytes end. end ≡ fill_outcome sheet table h bytes) file r) c.as_str.ensures.text (c.in_ok-bytes.was ∙ ap Ok c.in-Some.is) (fills_whole sheet table h r) c.read.ensures.file is)
    (subst (λ (bytes : List ℕ). ComesOf (λ (end : Outcome). end ≡ fill_outcome sheet table h bytes) c.filled_in.result) c.deref.ensures.value c.filled_in.ensures)

pub returns-in_ok-clone-in-None-clause-answer : goal.returns-in_ok-clone-in-None-clause-answer
returns-in_ok-clone-in-None-clause-answer g c =
    let sheet = c.args.sheet.now in
    let table = c.args.table.now in
    let h = c.args.desk.history in
    let files = g.F.Folder.files c.args.folder.now in
    subst (λ (n : List ℕ). FillsTo files sheet table h (Err (faults.Missing n))) (sym c.in_ok-clone-in-None.ensures.cases)
    (of_read bytes_in table c.as_str.result.now files None c.read.result (λ file. FileComesTo (faults.Missing table) (λ bytes end. end ≡ fill_outcome sheet table h bytes) file (Err (faults.Missing table))) c.as_str.ensures.text (c.in_ok-bytes.was ∙ ap Ok c.in-None.is) (fills_whole sheet table h (Err (faults.Missing table))) c.read.ensures.file refl)

pub returns-in_err-bytes-clause-answer : goal.returns-in_err-bytes-clause-answer
returns-in_err-bytes-clause-answer g c =
    let fault = err_from_is_err_and c.from_residual.result c.from_residual.ensures.1 in
    rw fault.1
    (folder_failed (g.F.Folder.faults c.args.folder.now) (g.F.Folder.faults c.read.new.self) (FillsTo (g.F.Folder.files c.args.folder.now) c.args.sheet.now c.args.table.now c.args.desk.history) c.in_err-bytes.field-0.0 fault.0 fault.2 c.in_err-bytes.ensures.cause)
