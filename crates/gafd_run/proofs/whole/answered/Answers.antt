use Rattle.std.proofs.Common.{Some, refl}
use Rattle.std.proofs.lemmas.Result.{err_from_is_err_and}
use Rattle.outside.specs.Counts.{counts}
use Rattle.sinks.specs.Streams.{stream}
use Rattle.gafd_run.specs.Writing.{folder_run}
use Rattle.gafd_run.proofs.DeliveryLemmas.{answer_failed, delivered, delivery_failed}
use Rattle.gafd_run.proofs.whole.answered.Goals as goal

pub returns-in_err-answer : goal.returns-in_err-answer
returns-in_err-answer g c =
    let fault = err_from_is_err_and c.from_residual.result c.from_residual.ensures.1 in
    let folder = folder_run (g.F.Folder.files c.args.folder.now) (g.F.Folder.files c.answer_of.new.folder) (counts (g.F.Folder.faults c.args.folder.now) (g.F.Folder.faults c.answer_of.new.folder)) in
    rw (fault.1, fault.2) (answer_failed folder (Some c.args.command) c.args.command _ c.in_err-answer.field-0.0 refl c.in_err-answer.ensures.files refl c.in_err-answer.ensures.answer)

pub returns-in_err-deliver : goal.returns-in_err-deliver
returns-in_err-deliver g c =
    let fault = err_from_is_err_and c.from_residual-in_err-deliver.result c.from_residual-in_err-deliver.ensures.1 in
    rw (fault.1, fault.2) (delivery_failed (g.F.Folder.files c.args.folder.now) (g.F.Folder.files c.answer_of.new.folder) (g.F.Folder.files c.deliver.new.folder) (g.F.Folder.faults c.args.folder.now) (g.F.Folder.faults c.answer_of.new.folder) (g.F.Folder.faults c.deliver.new.folder) (Some c.args.command) c.args.command _ c.in_ok-answer.answer refl c.in_ok-answer.ensures.answer c.in_ok-answer.ensures.files c.in_ok-answer.ensures.later c.in_err-deliver.field-0.0 c.in_err-deliver.ensures)

pub returns : goal.returns
returns g c =
    let out = stream (g.O.Sink.written c.args.out.now) (g.O.Sink.written c.deliver.new.out) (counts (g.O.Sink.faults c.args.out.now) (g.O.Sink.faults c.deliver.new.out)) in
    delivered (g.F.Folder.files c.args.folder.now) (g.F.Folder.files c.answer_of.new.folder) (g.F.Folder.files c.deliver.new.folder) (g.F.Folder.faults c.args.folder.now) (g.F.Folder.faults c.answer_of.new.folder) (g.F.Folder.faults c.deliver.new.folder) (Some c.args.command) c.args.command out c.in_ok-answer.answer refl c.in_ok-answer.ensures.answer c.in_ok-answer.ensures.files c.in_ok-answer.ensures.later c.in_ok-deliver.ensures
