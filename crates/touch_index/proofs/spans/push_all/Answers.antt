use Rattle.std.proofs.Common.{rules, ◌≡◌, ◌∷◌, ◌-◌, [], sym, subst, ◌∙◌}
use Rattle.touch_index.specs.steps.Spanning.{IsPushing, marks_from}
use Rattle.touch_index.proofs.SpanningLemmas.{looking_begins, pushing_begins, pushing_ends, pushing_more, pushing_past, pushing_stops}
use Rattle.touch_index.proofs.spans.push_all.Goals as goal

pub loop-mark-init : goal.loop-mark-init
loop-mark-init c =
    let from = c.args.span.from - c.args.width in
    let is : c.into_iter-mark-iterator.result ≡ marks_from c.args.marks.now c.args.span c.args.width from = search rules in
    pushing_begins c.args.marks.now c.args.span c.args.width c.args.own c.args.keys.now.items c.into_iter-mark-iterator.result
    (looking_begins c.args.marks.now c.args.span c.args.width from c.args.own c.into_iter-mark-iterator.result c.range-mark-items.ensures.ordered is)

pub loop-mark-preserved-in-Continue-1 : goal.loop-mark-preserved-in-Continue-1
loop-mark-preserved-in-Continue-1 c =
    let steps : c.loop-mark.mark-iterator ≡ c.in-Some.mark.now ∷ c.next.new.self = search rules in
    let pushing = subst (IsPushing c.args.marks.now c.args.span c.args.width c.args.own c.args.keys.now.items c.loop-mark.keys.items) steps c.loop-mark.invariant in
    rw c.in_ok-push.ensures.items
    (pushing_more c.args.marks.now c.args.span c.args.width c.args.own c.args.keys.now.items c.loop-mark.keys.items c.in-Some.mark.now c.next.new.self pushing
    (c.is_in_time.ensures.0 c.if-not-is_in_time.false) (c.is_wanted.ensures.0 c.if-is_wanted.true))

pub loop-mark-preserved : goal.loop-mark-preserved
loop-mark-preserved c =
    let steps : c.loop-mark.mark-iterator ≡ c.in-Some.mark.now ∷ c.next.new.self = search rules in
    let pushing = subst (IsPushing c.args.marks.now c.args.span c.args.width c.args.own c.args.keys.now.items c.loop-mark.keys.items) steps c.loop-mark.invariant in
    pushing_past c.args.marks.now c.args.span c.args.width c.args.own c.args.keys.now.items c.loop-mark.keys.items c.in-Some.mark.now c.next.new.self pushing
    (λ wanted. let e = sym (c.is_wanted.ensures.1 wanted) ∙ c.if-is_wanted.false in absurd (cc))

pub returns-then-not-is_in_time-clause-found : goal.returns-then-not-is_in_time-clause-found
returns-then-not-is_in_time-clause-found c =
    let steps : c.loop-mark.mark-iterator ≡ c.in-Some.mark.now ∷ c.next.new.self = search rules in
    let pushing = subst (IsPushing c.args.marks.now c.args.span c.args.width c.args.own c.args.keys.now.items c.loop-mark.keys.items) steps c.loop-mark.invariant in
    pushing_ends c.args.marks.now c.args.span c.args.width c.args.own c.args.keys.now.items c.loop-mark.keys.items
    (pushing_stops c.args.marks.now c.args.span c.args.width c.args.own c.args.keys.now.items c.loop-mark.keys.items c.in-Some.mark.now c.next.new.self pushing
    (λ near. let e = sym (c.is_in_time.ensures.1 near) ∙ c.if-not-is_in_time.true in absurd (cc)))

pub returns-clause-found : goal.returns-clause-found
returns-clause-found c =
    let none : c.loop-mark.mark-iterator ≡ [] = search rules in
    pushing_ends c.args.marks.now c.args.span c.args.width c.args.own c.args.keys.now.items c.loop-mark.keys.items
    (subst (IsPushing c.args.marks.now c.args.span c.args.width c.args.own c.args.keys.now.items c.loop-mark.keys.items) none c.loop-mark.invariant)
