use Rattle.std.proofs.Common.{ap, subst, sym, ◌∙◌}
use Rattle.hierarchy.specs.Instances.{IsCrowded}
use Rattle.project_model.specs.Projects.{ProjectData}
use Rattle.sheet_groups.specs.Conductors.{sheet_conductors}
use Rattle.sheet_groups.specs.Groups.{AreGroups}
use Rattle.work_run.specs.steps.SoundRuns.{OpenRun, run_of}
use Rattle.work_run.proofs.CrowdLemmas.{run_is_free}
use Rattle.work_run.proofs.ToldLemmas.{WorkComesTo-text}
use Rattle.work_run.proofs.run_text.work_text.Goals as goal

pub nets_of-requires : goal.nets_of-requires
nets_of-requires c =
    let same = c.project.ensures ∙ ap (λ (run : OpenRun). run.board.project) c.run.view_is in
    subst (λ (p : ProjectData). IsCrowded p → ⊥) (sym same)
    (run_is_free c.args.start c.args.count (run_of c.in_ok-run.run') c.requires.few c.in_ok-run.ensures.run)

pub returns : goal.returns
returns c =
    let groups = c.in_ok-groups.groups.items in
    let are_groups = subst (λ (run : OpenRun). AreGroups (sheet_conductors run.board.project) groups) c.run.view_is c.in_ok-groups.ensures.groups in
    let same = c.project.ensures ∙ ap (λ (run : OpenRun). run.board.project) c.run.view_is in
    WorkComesTo-text c.args.start c.args.count c.in_ok-run.run' c.project.result.now.contents groups c.in_ok-nets.nets c.in_ok-told.field-0.items
    same c.in_ok-run.ensures.run c.in_ok-run.ensures.sound c.in_ok-told.ensures.calls are_groups c.in_ok-nets.ensures (rw c.deref.ensures.value at c.in_ok-told.ensures.text)
