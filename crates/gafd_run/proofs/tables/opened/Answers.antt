use Rattle.std.proofs.Common.{◌≡◌, ℕ, List, None, Some, Ok, Err, refl, sym, subst, ap, ◌∙◌}
use Rattle.project_files.specs.FileReads.{FileComesTo}
use Rattle.project_files.proofs.Reading.{bytes_in, of_read}
use Rattle.gafd_run.specs.Answers.{opened_history}
use Rattle.gafd_run.specs.declared.fault.RunFault.TheVariants as faults
use Rattle.gafd_run.specs.steps.Passing.{ComesOf}
use Rattle.gafd_run.specs.steps.Tables.{OpenedFrom, OpensAs, history_in}
use Rattle.gafd_run.proofs.Passing.{answer_from}
use Rattle.gafd_run.proofs.TableLemmas.{opens_whole}
use Rattle.gafd_run.proofs.tables.opened.Goals as goal

pub returns-in-Some-clause-opened : goal.returns-in-Some-clause-opened
returns-in-Some-clause-opened g c =
    let name = c.args.sheet.now in
    let files = g.F.Folder.files c.args.folder.now in
    answer_from _ (OpensAs name c.in-Some.bytes.items) (OpenedFrom files name) c.opened_in.result
    (λ r h. of_read bytes_in name c.as_str.result.now files (Some c.in-Some.bytes) c.read.result (λ file. FileComesTo (faults.Missing name) (λ bytes end. end ≡ opened_history name bytes) file (history_in r)) c.as_str.ensures.text (c.in_ok-bytes.was ∙ ap Ok c.in-Some.is) (opens_whole name (history_in r)) c.read.ensures.file h)
    (subst (λ (bytes : List ℕ). ComesOf (OpensAs name bytes) c.opened_in.result) c.deref.ensures.value c.opened_in.ensures)

pub returns-in_ok-clone-in-None-clause-opened : goal.returns-in_ok-clone-in-None-clause-opened
returns-in_ok-clone-in-None-clause-opened g c =
    let name = c.args.sheet.now in
    let files = g.F.Folder.files c.args.folder.now in
    subst (λ (n : List ℕ). OpenedFrom files name (Err (faults.Missing n))) (sym c.in_ok-clone-in-None.ensures.cases)
    (of_read bytes_in name c.as_str.result.now files None c.read.result (λ file. FileComesTo (faults.Missing name) (λ bytes end. end ≡ opened_history name bytes) file (Err (faults.Missing name))) c.as_str.ensures.text (c.in_ok-bytes.was ∙ ap Ok c.in-None.is) (opens_whole name (Err (faults.Missing name))) c.read.ensures.file refl)
