use Rattle.std.proofs.lemmas.Result.{err_from_is_err_and}
use Rattle.gafd_run.specs.Answers.{circuit}
use Rattle.gafd_run.proofs.CircuitLemmas.{circuit_made, circuit_refused}
use Rattle.gafd_run.proofs.NetListLemmas.{nothing_listed}
use Rattle.gafd_run.proofs.answer.circuit.Goals as goal

pub returns-in_err-nets : goal.returns-in_err-nets
returns-in_err-nets c =
    let fault = err_from_is_err_and c.from_residual.result c.from_residual.ensures.1 in
    rw fault.1 (nothing_listed c.args.project.now.contents circuit c.in_err-nets.field-0.0 fault.0 fault.2 c.in_err-nets.ensures)

pub returns-in_err-spice_text : goal.returns-in_err-spice_text
returns-in_err-spice_text c =
    let fault = err_from_is_err_and c.from_residual-in_err-spice_text.result c.from_residual-in_err-spice_text.ensures.1 in
    rw (fault.1, fault.2) (circuit_refused c.args.project.now.contents c.in_ok-nets.nets c.in_err-spice_text.field-0.0 c.in_ok-nets.ensures c.in_err-spice_text.ensures.fault)

pub returns : goal.returns
returns c = circuit_made c.args.project.now.contents c.in_ok-nets.nets c.in_ok-spice_text.field-0.items c.done.result c.in_ok-nets.ensures c.in_ok-spice_text.ensures.text c.in_ok-spice_text.ensures.no_fault c.done.ensures
