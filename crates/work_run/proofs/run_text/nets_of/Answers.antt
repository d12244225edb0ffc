use Rattle.std.proofs.Common.{Err, ap, subst, ◌∙◌}
use Rattle.hierarchy.specs.declared.fault.ElabFault.TheVariants as faults
use Rattle.net_list.specs.declared.nets.Nets.{Nets}
use Rattle.reports.specs.NetLists.{Elaborates, OfNetList}
use Rattle.work_run.proofs.ToldLemmas.{net_list_of, not_crowded}
use Rattle.work_run.proofs.run_text.nets_of.Goals as goal

pub returns-in-Ok : goal.returns-in-Ok
returns-in-Ok c =
    let p = c.args.project.now.contents in
    net_list_of p c.in-Ok.nets (subst (Elaborates (OfNetList faults.TooManyInstances (λ (n : Nets). n) p)) c.in-Ok.is c.net_list.ensures)

pub unreachable-requires : goal.unreachable-requires
unreachable-requires c =
    let p = c.args.project.now.contents in
    let is = c.in-Err-TooManyInstances.is ∙ ap Err c.in-Err-TooManyInstances.field-0-is in
    not_crowded p c.requires (subst (Elaborates (OfNetList faults.TooManyInstances (λ (n : Nets). n) p)) is c.net_list.ensures)
