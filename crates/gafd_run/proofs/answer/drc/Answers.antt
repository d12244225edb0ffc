use Rattle.std.proofs.Common.{List, ℕ, Ok, Err, subst}
use Rattle.std.proofs.lemmas.Result.{err_from_is_err_and}
use Rattle.command_words.specs.declared.command.Command.TheVariants.{Drc}
use Rattle.project_files.specs.ProjectFiles.{GathersFrom, GathersTo}
use Rattle.gafd_run.specs.Answers.{ByNetList, checked_under}
use Rattle.gafd_run.specs.Faults.{run_fault}
use Rattle.gafd_run.specs.steps.Passing.{Over}
use Rattle.gafd_run.proofs.CheckLemmas.{of_kept}
use Rattle.gafd_run.proofs.SheetLemmas.{sheets_come, sheets_fail}
use Rattle.gafd_run.proofs.Passing.{answer_from, files_fault}
use Rattle.gafd_run.proofs.TableLemmas.{kept_on}
use Rattle.gafd_run.proofs.answer.drc.Goals as goal

pub returns-clause-answer : goal.returns-clause-answer
returns-clause-answer g c =
    let files = g.F.Folder.files c.args.folder.now in
    let later = g.F.Folder.files c.matrix_of.new.folder in
    let names = c.args.names in
    let levels = c.in_ok-matrix.matrix in
    let project = c.in_ok-project.project.contents in
    let told : GathersFrom later names (Ok project) = subst (λ (ns : List (List ℕ)). GathersFrom later ns (Ok project)) c.as_slice.ensures c.in_ok-project.ensures.project in
    let came : GathersFrom files names (Ok project) = of_kept files later (λ known. GathersTo known names (Ok project)) c.in_ok-matrix.ensures.files told in
    answer_from _ (ByNetList (checked_under levels) project) (Over files (Drc c.args.matrix names)) c.checked.result (λ r h. (Ok levels, c.in_ok-matrix.ensures.matrix, sheets_come (ByNetList (checked_under levels)) files names project r came h)) c.checked.ensures

pub returns-in_err-project-clause-answer : goal.returns-in_err-project-clause-answer
returns-in_err-project-clause-answer g c =
    let files = g.F.Folder.files c.args.folder.now in
    let later = g.F.Folder.files c.matrix_of.new.folder in
    let names = c.args.names in
    let levels = c.in_ok-matrix.matrix in
    let e = c.in_err-project.field-0.0 in
    let fault = err_from_is_err_and c.from_residual-in_err-project.result c.from_residual-in_err-project.ensures.1 in
    let whole : (h : GathersFrom later c.as_slice.result.now (Err e)) → Over files (Drc c.args.matrix names) (Err (run_fault e)) = λ h.
    (Ok levels, c.in_ok-matrix.ensures.matrix, sheets_fail (ByNetList (checked_under levels)) files names e (of_kept files later (λ known. GathersTo known names (Err e)) c.in_ok-matrix.ensures.files (subst (λ (ns : List (List ℕ)). GathersFrom later ns (Err e)) c.as_slice.ensures h))) in
    let h = files_fault (g.F.Folder.faults c.args.folder.now) (g.F.Folder.faults c.matrix_of.new.folder) (g.F.Folder.faults c.project_of.new.folder) (GathersFrom later c.as_slice.result.now) (Over files (Drc c.args.matrix names)) e c.in_ok-matrix.ensures.later whole c.in_err-project.ensures.project in
    rw (fault.1, fault.2) h

pub returns-clause-files : goal.returns-clause-files
returns-clause-files g c =
    let files = g.F.Folder.files in
    kept_on (files c.args.folder.now) (files c.matrix_of.new.folder) (files c.project_of.new.folder) c.in_ok-matrix.ensures.files c.in_ok-project.ensures.files
