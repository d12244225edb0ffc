use Rattle.std.proofs.Common.{List, ℕ, Ok, Err, subst, arith}
use Rattle.std.proofs.lemmas.Result.{err_from_is_err_and}
use Rattle.command_words.specs.declared.command.Command.TheVariants.{Spice}
use Rattle.gafd_run.specs.Answers.{CircuitOf}
use Rattle.project_files.specs.ProjectFiles.{GathersFrom}
use Rattle.gafd_run.specs.steps.Passing.{Over}
use Rattle.gafd_run.proofs.SheetLemmas.{sheets_come, sheets_fail}
use Rattle.gafd_run.proofs.Passing.{answer_from, files_fault}
use Rattle.gafd_run.proofs.answer.spice.Goals as goal

pub returns-clause-answer : goal.returns-clause-answer
returns-clause-answer g c =
    let files = g.F.Folder.files c.args.folder.now in
    let names = c.args.names in
    let project = c.in_ok-project.project.contents in
    let gathers = subst (λ (ns : List (List ℕ)). GathersFrom files ns (Ok project)) c.as_slice.ensures c.in_ok-project.ensures.project in
    answer_from _ (CircuitOf project) (Over files (Spice names)) c.circuit.result (λ r h. sheets_come CircuitOf files names project r gathers h) c.circuit.ensures

pub returns-in_err-project-clause-answer : goal.returns-in_err-project-clause-answer
returns-in_err-project-clause-answer g c =
    let files = g.F.Folder.files c.args.folder.now in
    let names = c.args.names in
    let e = c.in_err-project.field-0.0 in
    let fault = err_from_is_err_and c.from_residual.result c.from_residual.ensures.1 in
    let h = files_fault (g.F.Folder.faults c.args.folder.now) _ (g.F.Folder.faults c.project_of.new.folder) (GathersFrom files c.as_slice.result.now) (Over files (Spice names)) e (omega arith) (λ came. sheets_fail CircuitOf files names e (subst (λ (ns : List (List ℕ)). GathersFrom files ns (Err e)) c.as_slice.ensures came)) c.in_err-project.ensures.project in
    rw (fault.1, fault.2) h
