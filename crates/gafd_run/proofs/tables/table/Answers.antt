use Rattle.std.proofs.Common.{◌≡◌, List, Ok, ap}
use Rattle.std.proofs.lemmas.Result.{err_from_is_err_and}
use Rattle.edit_entries.specs.Entries.{EntryData}
use Rattle.gafd_run.specs.Answers.{Outcome, tabled}
use Rattle.gafd_run.proofs.TableLemmas.{open_failed}
use Rattle.gafd_run.proofs.tables.table.Goals as goal

pub returns-clause-answer : goal.returns-clause-answer
returns-clause-answer g c = (Ok c.in_ok-desk.desk.history, c.in_ok-desk.ensures.opened, ap Ok c.in_ok-answer.ensures)

pub returns-in_err-desk-clause-answer : goal.returns-in_err-desk-clause-answer
returns-in_err-desk-clause-answer g c =
    let fault = err_from_is_err_and c.from_residual.result c.from_residual.ensures.1 in
    rw (fault.1, fault.2)
    (open_failed (g.F.Folder.faults c.args.folder.now) (g.F.Folder.faults c.opened.new.folder) (g.F.Folder.files c.args.folder.now) c.args.sheet (λ (h : List EntryData) (end : Outcome). end ≡ tabled c.args.sheet h) c.in_err-desk.field-0.0 c.in_err-desk.ensures.opened)
