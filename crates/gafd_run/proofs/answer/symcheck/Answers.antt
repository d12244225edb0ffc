use Rattle.std.proofs.Common.{◌∙◌, List, [], ℕ, Ok, Err, ap, refl, subst, arith}
use Rattle.std.proofs.lemmas.Result.{err_from_is_err_and}
use Rattle.command_words.specs.declared.command.Command.TheVariants.{Symcheck}
use Rattle.gafd_run.specs.Answers.{symbols_reported}
use Rattle.gafd_run.specs.steps.Passing.{Over}
use Rattle.gafd_run.proofs.Passing.{files_fault}
use Rattle.symbol_files.specs.CheckedFiles.{ChecksFrom}
use Rattle.gafd_run.proofs.answer.symcheck.Goals as goal

pub returns-clause-answer : goal.returns-clause-answer
returns-clause-answer g c =
    let files = g.F.Folder.files c.args.folder.now in
    let checked = c.in_ok-files.files.items in (
      Ok checked,
      subst (λ (ns : List (List ℕ)). ChecksFrom files [] ns (Ok checked)) c.as_slice.ensures c.in_ok-files.ensures.read,
      ap Ok (c.in_ok-answer.ensures ∙ ap symbols_reported c.deref.ensures.value),
    )

pub returns-in_err-files-clause-answer : goal.returns-in_err-files-clause-answer
returns-in_err-files-clause-answer g c =
    let files = g.F.Folder.files c.args.folder.now in
    let names = c.args.names in
    let e = c.in_err-files.field-0.0 in
    let fault = err_from_is_err_and c.from_residual.result c.from_residual.ensures.1 in
    let h = files_fault (g.F.Folder.faults c.args.folder.now) _ (g.F.Folder.faults c.checked_files.new.folder) (ChecksFrom files [] c.as_slice.result.now) (Over files (Symcheck names)) e (omega arith)
    (λ came. (Err e, subst (λ (ns : List (List ℕ)). ChecksFrom files [] ns (Err e)) c.as_slice.ensures came, refl)) c.in_err-files.ensures.read in
    rw (fault.1, fault.2) h
