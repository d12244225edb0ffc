use Rattle.std.proofs.Common.{Ok}
use Rattle.net_list.specs.declared.nets.Nets.{Nets}
use Rattle.reports.specs.NetLists.{CheckData, checked}
use Rattle.reports.proofs.NetListLemmas.{further}
use Rattle.reports.proofs.net_lists.check_by.Goals as goal

pub returns : goal.returns
returns c =
    let p = c.args.project.now.contents in
    further _ (λ (nets : Nets). (checked p c.args.matrix.now nets, nets)) (λ (made : CheckData × Nets). made.0) (λ fault. fault) p (Ok (c.in_ok-check.check, c.in_ok-check.field-0-1)) c.in_ok-check.ensures
