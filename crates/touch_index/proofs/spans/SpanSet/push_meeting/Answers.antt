use Rattle.std.proofs.Common.{◌<◌, ℕ, List, length, slice_index_or, refl, subst}
use Rattle.touch_index.specs.steps.Spanning.{HasFound}
use Rattle.touch_index.proofs.SpanningLemmas.{adds_met, next_found}
use Rattle.touch_index.proofs.spans.SpanSet.push_meeting.Goals as goal

pub loop-width-preserved : goal.loop-width-preserved
loop-width-preserved c =
    let spans = c.args.self.now in
    let i = c.loop-width.width-index in
    let value = c.deref-width-items.ensures.value in
    let kept = c.in_ok-push_wanted.ensures.kept in
    let inside = subst (λ (ws : List ℕ). i < length ws) value c.loop-width-test.true in
    let found = subst (λ (ws : List ℕ). HasFound c.args.wanted.all spans.marks c.args.span (slice_index_or ws i 0) c.args.wanted.own c.push_wanted.new.keys.items) value
    c.in_ok-push_wanted.ensures.found in (
      λ k h. kept k (c.loop-width.invariant.0 k h),
      (
        next_found c.args.wanted.all spans c.args.span c.args.wanted.own i c.loop-width.keys.items c.push_wanted.new.keys.items (slice_index_or spans.widths.items i 0) 0 refl inside
            c.loop-width.invariant.1.0 kept found,
        adds_met spans.marks c.args.span c.args.wanted.own c.args.keys.now.items c.loop-width.keys.items c.push_wanted.new.keys.items c.loop-width.invariant.1.1 c.in_ok-push_wanted.ensures.only,
      ),
    )
