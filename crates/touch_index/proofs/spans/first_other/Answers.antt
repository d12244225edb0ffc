use Rattle.std.proofs.Common.{rules, ◌≡◌, ◌≢◌, ◌∷◌, sym, subst, ◌∙◌}
use Rattle.touch_index.specs.steps.Spanning.{IsLooking, IsWanted, marks_from}
use Rattle.touch_index.proofs.SpanningLemmas.{looking_begins, looking_finds, looking_past, looking_stops}
use Rattle.touch_index.proofs.spans.first_other.Goals as goal

pub loop-mark-init : goal.loop-mark-init
loop-mark-init c =
    let is : c.into_iter-mark-iterator.result ≡ marks_from c.args.marks.now c.args.span c.args.width c.args.from = search rules in
    looking_begins c.args.marks.now c.args.span c.args.width c.args.from c.args.own c.into_iter-mark-iterator.result c.range-mark-items.ensures.ordered is

pub returns-then-not-is_in_time : goal.returns-then-not-is_in_time
returns-then-not-is_in_time c =
    let steps : c.loop-mark.mark-iterator ≡ c.in-Some.mark.now ∷ c.next.new.self = search rules in
    looking_stops c.args.marks.now c.args.span c.args.width c.args.from c.args.own c.in-Some.mark.now c.next.new.self
    (λ near. let e = sym (c.is_in_time.ensures.1 near) ∙ c.if-not-is_in_time.true in absurd (cc))
    (subst (IsLooking c.args.marks.now c.args.span c.args.width c.args.from c.args.own) steps c.loop-mark.invariant)

pub returns-then-is_wanted : goal.returns-then-is_wanted
returns-then-is_wanted c =
    let steps : c.loop-mark.mark-iterator ≡ c.in-Some.mark.now ∷ c.next.new.self = search rules in
    let wanted : IsWanted c.args.span c.args.own c.in-Some.mark.now = c.is_wanted.ensures.0 c.if-is_wanted.true in
    looking_finds c.args.marks.now c.args.span c.args.width c.args.from c.args.own c.in-Some.mark.now c.next.new.self
    (c.is_in_time.ensures.0 c.if-not-is_in_time.false) wanted.apart
    (subst (IsLooking c.args.marks.now c.args.span c.args.width c.args.from c.args.own) steps c.loop-mark.invariant)

pub returns-then-passes-eq0 : goal.returns-then-passes-eq0
returns-then-passes-eq0 c =
    let steps : c.loop-mark.mark-iterator ≡ c.in-Some.mark.now ∷ c.next.new.self = search rules in
    let apart : c.in-Some.mark.now.key ≢ c.args.own = search rules in
    looking_finds c.args.marks.now c.args.span c.args.width c.args.from c.args.own c.in-Some.mark.now c.next.new.self
    (c.is_in_time.ensures.0 c.if-not-is_in_time.false) apart
    (subst (IsLooking c.args.marks.now c.args.span c.args.width c.args.from c.args.own) steps c.loop-mark.invariant)

pub loop-mark-preserved-then-ne : goal.loop-mark-preserved-then-ne
loop-mark-preserved-then-ne c =
    let steps : c.loop-mark.mark-iterator ≡ c.in-Some.mark.now ∷ c.next.new.self = search rules in
    looking_past c.args.marks.now c.args.span c.args.width c.args.from c.args.own c.in-Some.mark.now c.next.new.self
    (λ wanted. let e = sym (c.is_wanted.ensures.1 wanted) ∙ c.if-is_wanted.false in absurd (cc))
    (subst (IsLooking c.args.marks.now c.args.span c.args.width c.args.from c.args.own) steps c.loop-mark.invariant)

pub loop-mark-preserved : goal.loop-mark-preserved
loop-mark-preserved c =
    let steps : c.loop-mark.mark-iterator ≡ c.in-Some.mark.now ∷ c.next.new.self = search rules in
    looking_past c.args.marks.now c.args.span c.args.width c.args.from c.args.own c.in-Some.mark.now c.next.new.self
    (λ wanted. let e = sym (c.is_wanted.ensures.1 wanted) ∙ c.if-is_wanted.false in absurd (cc))
    (subst (IsLooking c.args.marks.now c.args.span c.args.width c.args.from c.args.own) steps c.loop-mark.invariant)
