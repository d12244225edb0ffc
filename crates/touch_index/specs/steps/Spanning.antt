-- Steps of the code; no public clause cites them.
-- The spans that stand for all that meet one (own).
use Rattle.std.specs.Prelude.{◌≡◌, ℕ, ◌<◌, ◌≤◌, ◌+◌, ◌-◌, ◌⊎◌, Bool, true, false, List, slice_index_or, ◌≢◌, Contains}
use Rattle.std.specs.BTreeSet.{BTreeSet, keys_between}
use Rattle.std.specs.BTreeMap.Range.{IsLeBy}
use Rattle.std.specs.List.Sorted.{IsStrictlySortedBy}
use Rattle.std.specs.declared.ops.Bound.TheVariants.{Included, Unbounded}
use Rattle.geda_geom.specs.declared.conductor.Key.{Key}
use Rattle.touch_index.specs.declared.spans.SpanSet.{SpanSet}
use Rattle.touch_index.specs.declared.spans.Mark.{Mark}
use Rattle.touch_index.specs.declared.spans.Span.{Span}
use Rattle.touch_index.specs.steps.Marks.{by_mark}
use Rattle.touch_index.specs.steps.Spans.{DoMeet, IsKept, IsMarked, mark_at, span_of}

-- no span of a mark of a line ends before it begins
abbrev pub AreProper : BTreeSet Mark → ℕ → Type 0
AreProper marks line =
    (m : Mark) → IsMarked marks m → m.line ≡ line → m.from ≤ (span_of m).to

-- a mark of another key, of one width on the line of a span, that begins from a place on, and no
-- later than the span ends
pub record IsNext (marks : BTreeSet Mark) (span : Span) (width from : ℕ) (own : Key) (m : Mark)
    : Type 0 where
  pub marked : IsMarked marks m
  pub line : m.line ≡ span.line
  pub wide : m.width ≡ width
  pub late : from ≤ m.from
  pub soon : m.from ≤ span.to
  pub apart : m.key ≢ own

-- the first begins no later, and is no shorter where both begin at one place
pub record IsNoLater (m n : Mark) : Type 0 where
  pub from : m.from ≤ n.from
  pub long : m.from ≡ n.from → m.beyond ≤ n.beyond

-- a mark of another key, that ends no earlier than a span begins
pub record IsWanted (span : Span) (own : Key) (m : Mark) : Type 0 where
  pub apart : m.key ≢ own
  pub late : span.from ≤ (span_of m).to

-- one of such marks, and no later than those of them that end no earlier than the span begins
pub record IsFirst (marks : BTreeSet Mark) (span : Span) (width from : ℕ) (own : Key) (m : Mark)
    : Type 0 where
  pub next : IsNext marks span width from own m
  pub first : (n : Mark) → IsNext marks span width from own n → IsWanted span own n
      → IsNoLater m n

-- the mark stands on the line of the span under a width, and begins no later than the span ends
pub record IsInTime (span : Span) (width : ℕ) (m : Mark) : Type 0 where
  pub line : m.line ≡ span.line
  pub wide : m.width ≡ width
  pub soon : m.from ≤ span.to

-- the marks from a place of one width on the line of the span on
abbrev pub marks_from : BTreeSet Mark → Span → ℕ → ℕ → List Mark
marks_from marks span width from =
    keys_between by_mark (Included (mark_at span width from)) Unbounded marks

-- marks that are there, in order, from a place of one width on the line of the span on
pub record AreLater (marks : BTreeSet Mark) (span : Span) (width from : ℕ) (left : List Mark)
    : Type 0 where
  pub rising : IsStrictlySortedBy by_mark left
  pub marked : (m : Mark) → Contains left m → IsMarked marks m
  pub late : (m : Mark) → Contains left m → IsLeBy by_mark (mark_at span width from) m

-- what is left of them, while those that are not wanted are passed over
pub record IsLooking (marks : BTreeSet Mark) (span : Span) (width from : ℕ) (own : Key)
    (left : List Mark) : Type 0 where
  pub later : AreLater marks span width from left
  pub all : (m : Mark) → IsNext marks span width from own m → IsWanted span own m
      → Contains left m

-- the span of a listed key meets a span, and that of a mark
pub record IsSpanned (marks : BTreeSet Mark) (span : Span) (own : Key) (keys : List Key) (m : Mark)
    : Type 0 where
  pub other : Mark
  pub marked : IsMarked marks other
  pub apart : other.key ≢ own
  pub listed : Contains keys other.key
  pub near : DoMeet span (span_of other)
  pub meets : DoMeet (span_of m) (span_of other)

-- a mark of another key, no shorter than its width tells, that meets the span
pub record IsMeeting (marks : BTreeSet Mark) (span : Span) (own : Key) (m : Mark) : Type 0 where
  pub marked : IsMarked marks m
  pub long : (span_of m).to ≤ m.from + m.width
  pub apart : m.key ≢ own
  pub meets : DoMeet span (span_of m)

-- listed keys stand for the marks of one width that meet the span and begin before a place
abbrev pub HasSpanningTo : BTreeSet Mark → Span → ℕ → Key → List Key → ℕ → Type 0
HasSpanningTo marks span width own keys from = (m : Mark) → IsMeeting marks span own m
    → m.width ≡ width → m.from < from → IsSpanned marks span own keys m

-- the key of a mark is listed where all are wanted; else some listed keys stand for it
abbrev pub IsFound : Bool → BTreeSet Mark → Span → Key → List Key → Mark → Type 0
IsFound true marks span own keys m = Contains keys m.key
IsFound false marks span own keys m = IsSpanned marks span own keys m

-- so for the marks of one width that meet the span
abbrev pub HasFound : Bool → BTreeSet Mark → Span → ℕ → Key → List Key → Type 0
HasFound all marks span width own keys = (m : Mark) → IsMeeting marks span own m
    → m.width ≡ width → IsFound all marks span own keys m

-- so for the first few widths
abbrev pub HasFirstFound : Bool → SpanSet → Span → Key → ℕ → List Key → Type 0
HasFirstFound all spans span own count keys = (i width : ℕ)
    → i < count → slice_index_or spans.widths.items i width ≡ width
    → HasFound all spans.marks span width own keys

-- so for all widths
abbrev pub HasAllFound : Bool → SpanSet → Key → List Key → Span → Type 0
HasAllFound all spans own keys span = (m : Mark) → Contains spans.widths.items m.width
    → IsMeeting spans.marks span own m → IsFound all spans.marks span own keys m

-- another key has a mark that meets the span
pub record IsMet (marks : BTreeSet Mark) (span : Span) (own key : Key) : Type 0 where
  pub mark : Mark
  pub marked : IsMarked marks mark
  pub is : mark.key ≡ key
  pub apart : mark.key ≢ own
  pub near : DoMeet span (span_of mark)

-- no other keys come into a list
abbrev pub AddsMet : BTreeSet Mark → Span → Key → List Key → List Key → Type 0
AddsMet marks span own old new =
    (k : Key) → Contains new k → Contains old k ⊎ IsMet marks span own k

-- the marks that are left, and the keys that were added, while those that do not meet the span are
-- passed over
pub record IsPushing (marks : BTreeSet Mark) (span : Span) (width : ℕ) (own : Key)
    (old keys : List Key) (left : List Mark) : Type 0 where
  pub kept : IsKept old keys
  pub only : AddsMet marks span own old keys
  pub later : AreLater marks span width (span.from - width) left
  pub all : (m : Mark) → IsNext marks span width (span.from - width) own m → IsWanted span own m
      → Contains keys m.key ⊎ Contains left m
