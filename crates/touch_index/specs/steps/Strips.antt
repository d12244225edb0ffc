-- Steps of the code; no public clause cites them.
-- Spans by the strip of lines in which they lie (own).
use Rattle.std.specs.Prelude.{◌≡◌, ◌≢◌, ◌⊎◌, ◌≤◌, ◌==◌, ◌/◌, ℕ, cond, Bool, List, Option, Some, Contains}
use Rattle.std.specs.Map.{lookup}
use Rattle.geda_geom.specs.declared.conductor.Key.{Key}
use Rattle.touch_index.specs.declared.strips.Strips.{Strips}
use Rattle.touch_index.specs.declared.spans.Mark.{Mark}
use Rattle.touch_index.specs.declared.spans.Span.{Span}
use Rattle.touch_index.specs.declared.spans.SpanSet.{SpanSet}
use Rattle.touch_index.specs.steps.Spans.{DoMeet, Holds, IsMarked, span_of}
use Rattle.touch_index.specs.steps.Spanning.{HasAllFound}

-- the strip of a line
abbrev pub strip_of : ℕ → ℕ
strip_of line = line / 64

-- the spans of a strip, if it has any
abbrev pub strip_at : Strips → ℕ → Option SpanSet
strip_at strips n = lookup (λ q. n == q) strips.spans.entries

-- the second strips are the first ones, but for what stands in one
abbrev pub DifferAtStrip : ℕ → Option SpanSet → Strips → Strips → Type 0
DifferAtStrip n value old new = (q : ℕ) → strip_at new q ≡ cond (n == q) value (strip_at old q)

-- the mark stands in the strip of its line
pub record HasMark (strips : Strips) (m : Mark) : Type 0 where
  pub spans : SpanSet
  pub there : strip_at strips (strip_of m.line) ≡ Some spans
  pub marked : IsMarked spans.marks m

-- the strip of the span's line holds it under the key
pub record HasSpan (strips : Strips) (s : Span) (k : Key) : Type 0 where
  pub spans : SpanSet
  pub there : strip_at strips (strip_of s.line) ≡ Some spans
  pub holds : Holds spans s k

-- nothing is lost
abbrev pub KeepsStrips : Strips → Strips → Type 0
KeepsStrips old new = (s : Span) (k : Key) → HasSpan old s k → HasSpan new s k

-- nothing under other keys is lost
abbrev pub KeepsOtherKeys : Key → Strips → Strips → Type 0
KeepsOtherKeys key old new = (s : Span) (k : Key) → k ≢ key → HasSpan old s k → HasSpan new s k

-- a mark more at most, or some mark less
abbrev pub AddsMarkTo : Mark → Strips → Strips → Type 0
AddsMarkTo mark old new = (m : Mark) → HasMark new m → HasMark old m ⊎ (m ≡ mark)

abbrev pub TakesMark : Mark → Strips → Strips → Type 0
TakesMark mark old new = (m : Mark) → HasMark new m → HasMark old m × (m ≢ mark)

-- no span of a mark ends before it begins
abbrev pub AreAllProper : Strips → Type 0
AreAllProper strips = (m : Mark) → HasMark strips m → m.from ≤ (span_of m).to

-- the keys of the spans that meet one are listed where all are wanted; else some stand for them
abbrev pub FindsOn : Bool → Strips → Key → List Key → Span → Type 0
FindsOn all strips own keys span = (spans : SpanSet)
    → strip_at strips (strip_of span.line) ≡ Some spans → HasAllFound all spans own keys span

-- another key has a mark that meets the span
pub record IsMetOn (strips : Strips) (span : Span) (own key : Key) : Type 0 where
  pub mark : Mark
  pub marked : HasMark strips mark
  pub is : mark.key ≡ key
  pub apart : mark.key ≢ own
  pub near : DoMeet span (span_of mark)

-- no other keys come into a list
abbrev pub AddsMetOn : Strips → Span → Key → List Key → List Key → Type 0
AddsMetOn strips span own old new =
    (k : Key) → Contains new k → Contains old k ⊎ IsMetOn strips span own k
