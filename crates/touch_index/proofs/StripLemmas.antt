-- What stands in strips, before and after one of them changes.
use Rattle.std.proofs.Common.{arith, ◌≡◌, ◌≢◌, ◌==◌, inl, inr, ℕ, Bool, true, false, cond, List, [], Option, Some, None, refl, sym, ap, subst, ◌∙◌}
use Rattle.std.proofs.lemmas.Bool.{cases_eq}
use Rattle.std.specs.BTreeMap.{is_at}
use Rattle.std.specs.List.{list_any}
use Rattle.std.specs.Map.{lookup}
use Rattle.std.specs.Option.{unwrap_or}
use Rattle.geda_geom.specs.declared.conductor.Key.{Key}
use Rattle.touch_index.specs.declared.strips.Strips.{Strips}
use Rattle.touch_index.specs.declared.spans.Mark.{Mark}
use Rattle.touch_index.specs.declared.spans.Span.{Span}
use Rattle.touch_index.specs.declared.spans.SpanSet.{SpanSet}
use Rattle.touch_index.specs.steps.Marks.{by_mark}
use Rattle.touch_index.specs.steps.Spans.{AddsMark, Holds, IsKept, IsMarked, KeepsOthers, KeepsSpans, LosesMark, mark_of}
use Rattle.touch_index.specs.steps.Spanning.{AddsMet, AreProper}
use Rattle.touch_index.specs.steps.Strips.{AddsMarkTo, AddsMetOn, AreAllProper, DifferAtStrip, FindsOn, HasMark, HasSpan, KeepsStrips, KeepsOtherKeys, TakesMark, strip_at, strip_of}
use Rattle.touch_index.proofs.SpanningLemmas.{all_found_later}

-- no set of marks has one
pub none_marked : (spans : SpanSet) → spans.marks.keys ≡ [] → (m : Mark) → IsMarked spans.marks m → ⊥
none_marked spans none m h =
    let p : false ≡ true = sym (ap (λ (ms : List Mark). list_any (is_at (by_mark m)) ms) none) ∙ h in absurd (cc)

-- and no strip is there
none_there : (strips : Strips) → strips.spans.entries ≡ [] → (n : ℕ) → strip_at strips n ≡ None
none_there strips none n = ap (λ (es : List (ℕ × SpanSet)). lookup (λ q. n == q) es) none

pub no_mark : (strips : Strips) → strips.spans.entries ≡ [] → (m : Mark) → HasMark strips m → ⊥
no_mark strips none m h = let p : ◌≡◌ {A = Option SpanSet} None (Some h.spans) = sym (none_there strips none (strip_of m.line)) ∙ h.there in absurd (cc)

-- the mark of a span that is there, and one that stands in a strip
pub mark_there : (strips : Strips) (s : Span) (k : Key) → HasSpan strips s k → HasMark strips (mark_of s k)
mark_there strips s k h = record { spans = h.spans; there = h.there; marked = h.holds.marked }

pub mark_on : (strips : Strips) (n : ℕ) (spans : SpanSet) (m : Mark) → strip_at strips n ≡ Some spans → n ≡ (strip_of m.line) → IsMarked spans.marks m → HasMark strips m
mark_on strips n spans m there line marked = record { spans = spans; there = ap (strip_at strips) (sym line) ∙ there; marked = marked }

-- one strip that changes
module _ (old new : Strips) (n : ℕ) (value : Option SpanSet) (differ : DifferAtStrip n value old new) where
  at_line : strip_at new n ≡ value
  at_line = differ n ∙ ap (λ (b : Bool). cond b value (strip_at old n)) (itself n)
    where
      itself : (i : ℕ) → (i == i) ≡ true
      itself i = grind arith

  at_other : (q : ℕ) → q ≢ n → strip_at new q ≡ strip_at old q
  at_other q apart = differ q ∙ go (n == q) refl
    where
      same : (i j : ℕ) → (i == j) ≡ true → j ≡ i
      same i j e = grind (arith, e)

      go : (b : Bool) → (n == q) ≡ b → cond b value (strip_at old q) ≡ strip_at old q
      go true e = absurd (apart (same n q e))
      go false e = refl

  -- the marks of the others stay
  mark_from : {R : Type 0} (m : Mark) → ((spans : SpanSet) → (strip_of m.line) ≡ n → value ≡ Some spans → IsMarked spans.marks m → R) → ((strip_of m.line) ≢ n → HasMark old m → R) → HasMark new m → R
  mark_from m here other h = elim (cases_eq (strip_of m.line) n) [
    | inl e ↦ here h.spans e (sym at_line ∙ ap (strip_at new) (sym e) ∙ h.there) h.marked
    | inr apart ↦ other apart (record { spans = h.spans; there = sym (at_other (strip_of m.line) apart) ∙ h.there; marked = h.marked })
  ]

  -- and so do their spans
  span_from : (s : Span) (k : Key) → ((spans : SpanSet) → (strip_of s.line) ≡ n → strip_at old n ≡ Some spans → Holds spans s k → HasSpan new s k) → HasSpan old s k → HasSpan new s k
  span_from s k here h = elim (cases_eq (strip_of s.line) n) [
    | inl e ↦ here h.spans e (ap (strip_at old) (sym e) ∙ h.there) h.holds
    | inr apart ↦ record { spans = h.spans; there = at_other (strip_of s.line) apart ∙ h.there; holds = h.holds }
  ]

-- two changes of one strip
pub differ_twice : (old mid new : Strips) (n : ℕ) (first second : Option SpanSet) → DifferAtStrip n first old mid → DifferAtStrip n second mid new → DifferAtStrip n second old new
differ_twice old mid new n first second before after q = after q ∙ ap (cond (n == q) second) (before q) ∙ go (n == q)
  where
    go : (b : Bool) → cond b second (cond b first (strip_at old q)) ≡ cond b second (strip_at old q)
    go true = refl
    go false = refl

-- no change
line_alike : (old new : Strips) → new.spans.entries ≡ old.spans.entries → (n : ℕ) → strip_at new n ≡ strip_at old n
line_alike old new same n = ap (λ (es : List (ℕ × SpanSet)). lookup (λ q. n == q) es) same

pub keeps_all : (old new : Strips) → new.spans.entries ≡ old.spans.entries → KeepsStrips old new
keeps_all old new same s k h = record { spans = h.spans; there = line_alike old new same (strip_of s.line) ∙ h.there; holds = h.holds }

pub adds_nothing : (old new : Strips) (span : Span) (key : Key) → new.spans.entries ≡ old.spans.entries → AddsMarkTo (mark_of span key) old new
adds_nothing old new span key same m h = inl (record { spans = h.spans; there = sym (line_alike old new same (strip_of m.line)) ∙ h.there; marked = h.marked })

same_spans : (o : Option SpanSet) (a b : SpanSet) → o ≡ Some a → o ≡ Some b → a ≡ b
same_spans o a b first second = ap (λ (x : Option SpanSet). unwrap_or x a) (sym first ∙ second)

module _ (old new : Strips) (span : Span) (key : Key) where
  -- a span comes to a strip that is there
  module _ (before after : SpanSet) (was : strip_at old (strip_of span.line) ≡ Some before) (differ : DifferAtStrip (strip_of span.line) (Some after) old new) where
    span_stays : (s : Span) (k : Key) → (Holds before s k → Holds after s k) → HasSpan old s k → HasSpan new s k
    span_stays s k stays = span_from old new (strip_of span.line) (Some after) differ s k (λ spans line there holds. record {
      spans = after;
      there = ap (strip_at new) line ∙ at_line old new (strip_of span.line) (Some after) differ;
      holds = stays (subst (λ (x : SpanSet). Holds x s k) (same_spans (strip_at old (strip_of span.line)) spans before there was) holds);
    })

    old_mark : (m : Mark) → (strip_of m.line) ≡ (strip_of span.line) → IsMarked before.marks m → HasMark old m
    old_mark m line = mark_on old (strip_of span.line) before m was (sym line)

    after_mark_is : (spans : SpanSet) (m : Mark) → Some after ≡ Some spans → IsMarked spans.marks m → IsMarked after.marks m
    after_mark_is spans m e = subst (λ (x : SpanSet). IsMarked x.marks m) (same_spans (Some after) spans after e refl)

    pub entered_at : Holds after span key → HasSpan new span key
    entered_at holds = record { spans = after; there = at_line old new (strip_of span.line) (Some after) differ; holds = holds }

    pub keeps_more : KeepsSpans before after → KeepsStrips old new
    keeps_more keeps s k = span_stays s k (keeps s k)

    pub adds_more : AddsMark (mark_of span key) before after → AddsMarkTo (mark_of span key) old new
    adds_more adds m = mark_from old new (strip_of span.line) (Some after) differ m
        (λ spans line is marked. elim (adds m (after_mark_is spans m is marked)) [ inl b ↦ inl (old_mark m line b) | inr e ↦ inr e ])
        (λ apart h. inl h)

    pub keeps_less : KeepsOthers key before after → KeepsOtherKeys key old new
    keeps_less keeps s k apart = span_stays s k (keeps s k apart)

    pub takes_one : LosesMark (mark_of span key) before after → TakesMark (mark_of span key) old new
    takes_one loses m = mark_from old new (strip_of span.line) (Some after) differ m
        (λ spans line is marked. let left = loses m (after_mark_is spans m is marked) in (old_mark m line left.0, left.1))
        (λ apart h. (h, λ e. apart (ap (λ (x : Mark). strip_of x.line) e)))

  -- a span comes to a strip of its own
  module _ (after : SpanSet) (was : strip_at old (strip_of span.line) ≡ None) (differ : DifferAtStrip (strip_of span.line) (Some after) old new) where
    pub entered_first : Holds after span key → HasSpan new span key
    entered_first holds = record { spans = after; there = at_line old new (strip_of span.line) (Some after) differ; holds = holds }

    pub keeps_first : KeepsStrips old new
    keeps_first s k = span_from old new (strip_of span.line) (Some after) differ s k
        (λ spans line there holds. let p : ◌≡◌ {A = Option SpanSet} None (Some spans) = sym was ∙ there in absurd (cc))

    pub adds_first_to : (empty : SpanSet) → empty.marks.keys ≡ [] → AddsMark (mark_of span key) empty after → AddsMarkTo (mark_of span key) old new
    adds_first_to empty none adds m = mark_from old new (strip_of span.line) (Some after) differ m
        (λ spans line is marked. elim (adds m (subst (λ (x : SpanSet). IsMarked x.marks m) (same_spans (Some after) spans after is refl) marked)) [
          | inl b ↦ absurd (none_marked empty none m b)
          | inr e ↦ inr e
        ])
        (λ apart h. inl h)

  -- a strip goes with its last span
  module _ (before after : SpanSet) (was : strip_at old (strip_of span.line) ≡ Some before) (differ : DifferAtStrip (strip_of span.line) None old new) (none : after.marks.keys ≡ []) where
    pub keeps_last : KeepsOthers key before after → KeepsOtherKeys key old new
    keeps_last keeps s k apart = span_from old new (strip_of span.line) None differ s k
        (λ spans line there holds. absurd (none_marked after none (mark_of s k)
        (keeps s k apart (subst (λ (x : SpanSet). Holds x s k) (same_spans (strip_at old (strip_of span.line)) spans before there was) holds)).marked))

    pub takes_last : TakesMark (mark_of span key) old new
    takes_last m = mark_from old new (strip_of span.line) None differ m
        (λ spans line is marked. let p : ◌≡◌ {A = Option SpanSet} None (Some spans) = is in absurd (cc))
        (λ apart h. (h, λ e. apart (ap (λ (x : Mark). strip_of x.line) e)))

-- nothing is taken from a strip that is not there
pub takes_nothing : (strips : Strips) (span : Span) (key : Key) → strip_at strips (strip_of span.line) ≡ None → TakesMark (mark_of span key) strips strips
takes_nothing strips span key none m h = (
  h,
  λ e. let p : ◌≡◌ {A = Option SpanSet} None (Some h.spans) = sym none ∙ ap (λ (x : Mark). strip_at strips (strip_of x.line)) (sym e) ∙ h.there in absurd (cc),
)

-- what is so of the strips is so of one
pub line_proper : (strips : Strips) (n : ℕ) (spans : SpanSet) → strip_at strips (strip_of n) ≡ Some spans → AreAllProper strips → AreProper spans.marks n
line_proper strips n spans there proper m marked line = proper m (mark_on strips (strip_of n) spans m there (ap strip_of (sym line)) marked)

pub finds_later : (all : Bool) (strips : Strips) (own : Key) (old new : List Key) → IsKept old new → (span : Span) → FindsOn all strips own old span → FindsOn all strips own new span
finds_later all strips own old new kept span found spans there = all_found_later all spans own old new kept span (found spans there)

pub met_on : (strips : Strips) (span : Span) (spans : SpanSet) (own : Key) (old new : List Key) → strip_at strips (strip_of span.line) ≡ Some spans → AddsMet spans.marks span own old new → AddsMetOn strips span own old new
met_on strips span spans own old new there adds k c = elim (adds k c) [
  | inl b ↦ inl b
  | inr is ↦ inr (record {
    mark = is.mark;
    marked = mark_on strips (strip_of span.line) spans is.mark there (ap strip_of is.near.together) is.marked;
    is = is.is;
    apart = is.apart;
    near = is.near;
  })
]
