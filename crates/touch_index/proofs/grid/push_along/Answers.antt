use Rattle.std.proofs.Common.{inl, inr, subst}
use Rattle.touch_index.specs.steps.Strips.{AddsMetOn, FindsOn}
use Rattle.touch_index.proofs.GridLemmas.{on_ok}
use Rattle.touch_index.proofs.StripLemmas.{finds_later}
use Rattle.touch_index.proofs.grid.push_along.Goals as goal

pub returns-then-a-b-clause-found : goal.returns-then-a-b-clause-found
returns-then-a-b-clause-found c =
    on_ok c.push_meeting.result (λ kept found. record {
      along = λ e. subst (FindsOn c.args.wanted.all c.args.strips.now c.args.wanted.own c.push_meeting.new.keys.items) c.between.ensures found;
      first = λ ne. absurd (ne c.if-a-b.true);
      second = λ ne. absurd (ne c.if-a-b.true);
    }) c.push_meeting.ensures.kept c.push_meeting.ensures.found

pub returns-then-a-b-clause-only : goal.returns-then-a-b-clause-only
returns-then-a-b-clause-only c =
    on_ok c.push_meeting.result (λ kept only k h. elim (subst (λ s. AddsMetOn c.args.strips.now s c.args.wanted.own c.args.keys.now.items c.push_meeting.new.keys.items) c.between.ensures only k h) [
      | inl o ↦ inl o
      | inr is ↦ inr (inl (c.if-a-b.true, is))
    ]) c.push_meeting.ensures.kept c.push_meeting.ensures.only

pub returns-clause-found : goal.returns-clause-found
returns-clause-found c =
    let all = c.args.wanted.all in
    let own = c.args.wanted.own in
    let strips = c.args.strips.now in
    let old = c.push_meeting-2.new.keys.items in
    let new = c.push_meeting-3.new.keys.items in
    let first = subst (FindsOn all strips own old) c.between-2.ensures c.in_ok-push_meeting.ensures.found in
    on_ok c.push_meeting-3.result (λ kept found. record {
      along = λ e. absurd (c.if-a-b.false e);
      first = λ ne. finds_later all strips own old new kept _ first;
      second = λ ne. subst (FindsOn all strips own new) c.between-3.ensures found;
    }) c.push_meeting-3.ensures.kept c.push_meeting-3.ensures.found

pub returns-clause-only : goal.returns-clause-only
returns-clause-only c =
    let own = c.args.wanted.own in
    let strips = c.args.strips.now in
    let old = c.args.keys.now.items in
    let mid = c.push_meeting-2.new.keys.items in
    let new = c.push_meeting-3.new.keys.items in
    on_ok c.push_meeting-3.result (λ kept only k h. elim (subst (λ s. AddsMetOn strips s own mid new) c.between-3.ensures only k h) [
      | inl m ↦ elim (subst (λ s. AddsMetOn strips s own old mid) c.between-2.ensures c.in_ok-push_meeting.ensures.only k m) [
        | inl o ↦ inl o
        | inr is ↦ inr (inr (c.if-a-b.false, inl is))
      ]
      | inr is ↦ inr (inr (c.if-a-b.false, inr is))
    ]) c.push_meeting-3.ensures.kept c.push_meeting-3.ensures.only
