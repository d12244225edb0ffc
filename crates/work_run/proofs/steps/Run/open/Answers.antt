use Rattle.std.proofs.Common.{◌≡◌, ap, ◌∙◌}
use Rattle.std.specs.FinMap.{keys}
use Rattle.project_model.specs.Changes.{put}
use Rattle.project_model.specs.Projects.{ProjectData, empty_project}
use Rattle.gaf_work.specs.Opening.{opening}
use Rattle.work_run.proofs.RunLemmas.{IsSoundBoard-new, IsSoundRun-opened}
use Rattle.work_run.proofs.steps.Run.open.Goals as goal

pub returns-clause-sound : goal.returns-clause-sound
returns-clause-sound c =
    let board = c.put_in.new.board in
    let fresh = IsSoundBoard-new c.new-board.result c.new-board.ensures.fresh c.new-board.ensures.asked in
    let first = c.new-board.ensures.project in
    let given = c.in_ok-change.ensures.opening in
    let there = c.in_ok-bound.ensures.project in
    let project : board.project ≡ put empty_project opening = cc in
    let live = c.in_ok-live.ensures ∙ ap (λ (p : ProjectData). keys p.objects) c.project.ensures in
    IsSoundRun-opened _ (c.in_ok-bound.ensures.sound fresh) project live
