use Rattle.std.proofs.Common.{Ok}
use Rattle.command_words.specs.declared.command.Command.TheVariants.{Fill}
use Rattle.gafd_run.specs.Answers.{FillsTo}
use Rattle.gafd_run.specs.steps.Passing.{Over}
use Rattle.std.proofs.lemmas.Result.{err_from_is_err_and}
use Rattle.gafd_run.proofs.TableLemmas.{answer_later, fills_before, kept_on, open_failed}
use Rattle.gafd_run.proofs.tables.fill.Goals as goal

pub returns-clause-answer : goal.returns-clause-answer
returns-clause-answer g c =
    let old = g.F.Folder.files c.args.folder.now in
    let mid = g.F.Folder.files c.opened.new.folder in
    let sheet = c.args.sheet in
    let table = c.args.table in
    let h = c.in_ok-desk.desk.history in
    answer_later (g.F.Folder.faults c.args.folder.now) (g.F.Folder.faults c.opened.new.folder) (g.F.Folder.faults c.filled.new.folder) (FillsTo mid sheet table h) (Over old (Fill sheet table)) c.filled.result c.in_ok-desk.ensures.later
    (λ r fills. (Ok h, c.in_ok-desk.ensures.opened, fills_before old mid sheet table h r c.in_ok-desk.ensures.files fills)) c.filled.ensures.answer

pub returns-in_err-desk-clause-answer : goal.returns-in_err-desk-clause-answer
returns-in_err-desk-clause-answer g c =
    let files = g.F.Folder.files c.args.folder.now in
    let fault = err_from_is_err_and c.from_residual.result c.from_residual.ensures.1 in
    rw (fault.1, fault.2)
    (open_failed (g.F.Folder.faults c.args.folder.now) (g.F.Folder.faults c.opened.new.folder) files c.args.sheet (FillsTo files c.args.sheet c.args.table) c.in_err-desk.field-0.0 c.in_err-desk.ensures.opened)

pub returns-clause-files : goal.returns-clause-files
returns-clause-files g c =
    kept_on (g.F.Folder.files c.args.folder.now) (g.F.Folder.files c.opened.new.folder) (g.F.Folder.files c.filled.new.folder) c.in_ok-desk.ensures.files c.filled.ensures.files
