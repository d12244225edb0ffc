use Rattle.std.proofs.Common.{◌≡◌, ◌∙◌, Ok, ap, inr, subst, sym}
use Rattle.project_model.specs.Projects.{ProjectData}
use Rattle.hierarchy.specs.Instances.{lost_of}
use Rattle.net_names.specs.NetLists.{IsNetListOf}
use Rattle.drc_rules.specs.Findings.{findings}
use Rattle.reports.specs.NetLists.{CheckData, checked, reported}
use Rattle.reports.proofs.net_lists.check_and_nets_by.Goals as goal

pub findings_on-requires : goal.findings_on-requires
findings_on-requires c = record {
  lost = c.as_slice-2.ensures ∙ c.in_ok-hierarchy.ensures.lost ∙ ap lost_of (sym c.in_ok-objects.ensures);
}

pub returns : goal.returns
returns c =
    let p = c.args.project.now.contents in
    let nets = c.in_ok-nets.nets in
    let listed : IsNetListOf p nets = subst (λ (q : ProjectData). IsNetListOf q nets) c.in_ok-objects.ensures c.in_ok-nets.ensures in
    let found = c.deref.ensures.value ∙ c.in_ok-found.ensures.findings ∙ ap (λ (q : ProjectData). findings q nets c.args.matrix.now) c.in_ok-objects.ensures in
    let made : c.in_ok-reported.field-0 ≡ checked p c.args.matrix.now nets = c.in_ok-reported.ensures ∙ ap reported found in
    inr (c.in_ok-hierarchy.ensures.accepted, (nets, listed, ap (λ (check : CheckData). Ok (check, nets)) made))
