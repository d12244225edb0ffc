use Rattle.std.proofs.Common.{add-one, ap, take, sym, ◌∙◌}
use Rattle.std.specs.FinMap.{keys}
use Rattle.project_model.specs.Changes.{put}
use Rattle.project_model.specs.Projects.{ProjectData}
use Rattle.project_model.proofs.ChangeLemmas.{put_next}
use Rattle.gaf_work.proofs.live.follow_items.Goals as goal

pub loop-item-preserved : goal.loop-item-preserved
loop-item-preserved c = λ p same.
    let items = c.args.items.now in
    let i = c.loop-item.item-index in
    let before = c.loop-item.invariant p same in
    rw add-one (c.in_ok-follow_item.ensures (put p (take i items)) before
    ∙ ap (λ (q : ProjectData). keys q.objects) (sym (put_next p items i c.item-item.result c.loop-item-test.true c.item-item.is)))
