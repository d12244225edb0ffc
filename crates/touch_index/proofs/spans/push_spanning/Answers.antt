use Rattle.std.proofs.Common.{arith, ◌≡◌, ◌≤◌, ◌-◌, ◌∷◌, []}
use Rattle.std.proofs.lemmas.List.Elements.{Contains-append_left}
use Rattle.touch_index.proofs.SpanningLemmas.{adds_one_met, spanning_more}
use Rattle.touch_index.proofs.spans.push_spanning.Goals as goal

pub loop-mark-preserved : goal.loop-mark-preserved
loop-mark-preserved c =
    let to : c.from-from-else-to-span.result ≡ 4294967295 - c.in-Some.mark.beyond = c.from-from-else-to-span.ensures in
    let short = c.if-to-span.false in
    let reaches : c.args.span.from ≤ 4294967295 - c.in-Some.mark.beyond = omega (arith, short) in
    rw (c.in_ok-push.ensures.items, to) (
      λ k h. Contains-append_left c.loop-mark.keys.items (c.in-Some.mark.key ∷ []) k (c.loop-mark.invariant.0 k h),
      (
        spanning_more c.args.marks.now c.args.span c.args.width c.args.own c.loop-mark.from c.in-Some.mark c.in-Some.ensures
            c.loop-mark.keys.items c.requires.proper reaches c.loop-mark.invariant.1.0,
        adds_one_met c.args.marks.now c.args.span c.args.width c.loop-mark.from c.args.own c.args.keys.now.items c.loop-mark.keys.items c.in-Some.mark c.in-Some.ensures.next reaches
            c.loop-mark.invariant.1.1,
      ),
    )
