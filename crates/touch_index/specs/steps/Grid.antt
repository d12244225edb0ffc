-- Steps of the code; no public clause cites them.
-- A grid of rows and columns, and the spans that a conductor has in it (own).
use Rattle.std.specs.Prelude.{◌≡◌, ◌≢◌, ◌⊎◌, ◌≤◌, ℕ, suc, ◌+◌, ◌-◌, ℤ, pos, negsuc, Bool, List, Contains, min, max}
use Rattle.geda_geom.specs.declared.conductor.Key.{Key}
use Rattle.geda_geom.specs.declared.conductor.Point.{Point}
use Rattle.geda_geom.specs.declared.conductor.Conductor.{Conductor}
use Rattle.geda_geom.specs.declared.conductor.Conductor.TheVariants.{Segment, End}
use Rattle.touch_index.specs.declared.grid.Grid.{Grid}
use Rattle.touch_index.specs.declared.grid.LinePoint.{LinePoint}
use Rattle.touch_index.specs.declared.strips.Strips.{Strips}
use Rattle.touch_index.specs.declared.spans.Span.{Span}
use Rattle.touch_index.specs.steps.Strips.{FindsOn, HasSpan, IsMetOn}

-- a coordinate, counted from the least one
abbrev pub lifted : ℤ → ℕ
lifted (pos n) = 2147483648 + n
lifted (negsuc n) = 2147483648 - suc n

-- a point on its row, and on its column
abbrev pub row_point : Point → LinePoint
row_point p = record { line = lifted p.y; at = lifted p.x }

abbrev pub column_point : Point → LinePoint
column_point p = record { line = lifted p.x; at = lifted p.y }

-- what lies between two points of a line
abbrev pub between : LinePoint → LinePoint → Span
between a b = record { line = a.line; from = min a.at b.at; to = max a.at b.at }

-- the span runs through the point
pub record IsThrough (s : Span) (p : LinePoint) : Type 0 where
  pub line : s.line ≡ p.line
  pub from : s.from ≤ p.at
  pub to : p.at ≤ s.to

-- so it is of the span between two points of one line, and else of each point by itself
pub record Along (P : Span → Type 0) (a b : LinePoint) : Type 0 where
  pub along : a.line ≡ b.line → P (between a b)
  pub first : a.line ≢ b.line → P (between a a)
  pub second : a.line ≢ b.line → P (between b b)

-- so it is of one of these spans
abbrev pub SomeAlong : (Span → Type 0) → LinePoint → LinePoint → Type 0
SomeAlong P a b = ((a.line ≡ b.line) × P (between a b))
    ⊎ ((a.line ≢ b.line) × (P (between a a) ⊎ P (between b b)))

-- so it is of some span through the point
abbrev pub Through : (Span → Type 0) → LinePoint → Type 0
Through P p = (s : Span) × P s × IsThrough s p

-- the ends of a segment; the end of a pin twice
abbrev pub ends_of : Conductor → Point × Point
ends_of (Segment a b) = (a, b)
ends_of (End at) = (at, at)

-- so it is of the spans of a conductor in the rows and in the columns
pub record InGrid (R C : Span → Type 0) (c : Conductor) : Type 0 where
  pub rows : Along R (row_point (ends_of c).0) (row_point (ends_of c).1)
  pub columns : Along C (column_point (ends_of c).0) (column_point (ends_of c).1)

-- the grid has a conductor under the key
abbrev pub Covers : Grid → Conductor → Key → Type 0
Covers grid c k = InGrid (λ s. HasSpan grid.rows s k) (λ s. HasSpan grid.columns s k) c

-- the list has the keys, or some that stand for them, of the spans that meet those of the conductor
abbrev pub Finds : Bool → Grid → Conductor → Key → List Key → Type 0
Finds all grid c own keys =
    InGrid (FindsOn all grid.rows own keys) (FindsOn all grid.columns own keys) c

-- another key has a span that meets one between two points
abbrev pub IsMetAlong : Strips → LinePoint → LinePoint → Key → Key → Type 0
IsMetAlong strips a b own key = SomeAlong (λ s. IsMetOn strips s own key) a b

-- no other keys come into a list
abbrev pub AddsMetAlong : Strips → LinePoint → LinePoint → Key → List Key → List Key → Type 0
AddsMetAlong strips a b own old new =
    (k : Key) → Contains new k → Contains old k ⊎ IsMetAlong strips a b own k

-- another key has a span that meets one of the conductor
abbrev pub IsMetIn : Grid → Conductor → Key → Key → Type 0
IsMetIn grid c own key =
    IsMetAlong grid.rows (row_point (ends_of c).0) (row_point (ends_of c).1) own key
    ⊎ IsMetAlong grid.columns (column_point (ends_of c).0) (column_point (ends_of c).1) own key

-- no other keys come into a list
abbrev pub AddsMetIn : Grid → Conductor → Key → List Key → List Key → Type 0
AddsMetIn grid c own old new = (k : Key) → Contains new k → Contains old k ⊎ IsMetIn grid c own k
