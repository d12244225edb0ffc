use Rattle.std.proofs.Common.{List, ◌++◌, ap, ◌∙◌}
use Rattle.std.specs.Prelude.{false, slice_index_or}
use Rattle.hierarchy.specs.Ways.{WayData, way_at}
use Rattle.hierarchy.specs.steps.Widening.{if_unmarked}
use Rattle.hierarchy.proofs.WideningLemmas.{unmarked_more}
use Rattle.hierarchy.proofs.widening.ways_at.Goals as goal

pub loop-place-preserved : goal.loop-place-preserved
loop-place-preserved c =
    c.in_ok-push_root.ensures
    ∙ ap (λ (ws : List WayData). ws ++ if_unmarked way_at (slice_index_or c.args.named.now c.loop-place.place false) c.loop-place.place) c.loop-place.invariant
    ∙ unmarked_more way_at c.args.named.now c.loop-place.place
