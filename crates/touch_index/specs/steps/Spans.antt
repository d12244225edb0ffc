-- Steps of the code; no public clause cites them.
-- Spans on parallel lines, each under a key (own).
use Rattle.std.specs.Prelude.{◌≡◌, ℕ, ◌≤◌, ◌+◌, ◌-◌, List, [], ◌∷◌, nat_le, if◌then◌else◌, ◌≢◌, ◌⊎◌, Contains, IsTrue}
use Rattle.std.specs.BTreeSet.{BTreeSet, contains}
use Rattle.geda_geom.specs.declared.conductor.Key.{Key}
use Rattle.touch_index.specs.declared.spans.SpanSet.{SpanSet}
use Rattle.touch_index.specs.declared.spans.Mark.{Mark}
use Rattle.touch_index.specs.declared.spans.Span.{Span}
use Rattle.touch_index.specs.steps.Marks.{by_mark}

-- two spans lie on one line and have a point in common
pub record DoMeet (s t : Span) : Type 0 where
  pub together : s.line ≡ t.line
  pub before : s.from ≤ t.to
  pub after : t.from ≤ s.to

-- the first of some widths that is no less than a length
abbrev pub width_from : List ℕ → ℕ → ℕ
width_from [] long = 4294967295
width_from (w ∷ ws) long = if nat_le long w then w else width_from ws long

unfoldable pub width_of : Span → ℕ
width_of s = width_from
    (0 ∷ 16 ∷ 64 ∷ 256 ∷ 1024 ∷ 4096 ∷ 16384 ∷ 65536 ∷ 262144 ∷ 1048576 ∷ []) (s.to - s.from)

-- the mark of a span, and the span of a mark
abbrev pub mark_of : Span → Key → Mark
mark_of s k = record {
  line = s.line;
  width = width_of s;
  from = s.from;
  beyond = 4294967295 - s.to;
  key = k;
}

abbrev pub span_of : Mark → Span
span_of m = record { line = m.line; from = m.from; to = 4294967295 - m.beyond }

abbrev pub IsMarked : BTreeSet Mark → Mark → Type 0
IsMarked marks m = IsTrue (contains by_mark marks m)

-- nothing of a list is lost
abbrev pub IsKept : List Key → List Key → Type 0
IsKept old new = (k : Key) → Contains old k → Contains new k

-- the set has a mark of the span under the key, with a width that it knows
pub record Holds (spans : SpanSet) (s : Span) (k : Key) : Type 0 where
  pub known : Contains spans.widths.items (width_of s)
  pub long : s.to ≤ s.from + width_of s
  pub fits : s.to ≤ 4294967295
  pub marked : IsMarked spans.marks (mark_of s k)

abbrev pub no_key : Key
no_key = record { id = 0; place = 0 }

-- before all marks of a width on the line of the span that begin at a place
abbrev pub mark_at : Span → ℕ → ℕ → Mark
mark_at s width from =
    record { line = s.line; width = width; from = from; beyond = 0; key = no_key }

-- nothing is lost
abbrev pub KeepsSpans : SpanSet → SpanSet → Type 0
KeepsSpans old new = (s : Span) (k : Key) → Holds old s k → Holds new s k

-- nothing under other keys is lost
abbrev pub KeepsOthers : Key → SpanSet → SpanSet → Type 0
KeepsOthers key old new = (s : Span) (k : Key) → k ≢ key → Holds old s k → Holds new s k

-- a mark more at most, or some mark less
abbrev pub AddsMark : Mark → SpanSet → SpanSet → Type 0
AddsMark mark old new = (m : Mark) → IsMarked new.marks m → IsMarked old.marks m ⊎ (m ≡ mark)

abbrev pub LosesMark : Mark → SpanSet → SpanSet → Type 0
LosesMark mark old new = (m : Mark) → IsMarked new.marks m → IsMarked old.marks m × (m ≢ mark)
