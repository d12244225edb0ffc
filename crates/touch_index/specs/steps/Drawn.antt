-- Steps of the code; no public clause cites them.
-- The marks that conductors have in a grid (own).
use Rattle.std.specs.Prelude.{◌≡◌, ◌⊎◌, ◌<◌, ℤ, pos, negsuc, [], Option, Some}
use Rattle.geda_geom.specs.declared.conductor.Key.{Key}
use Rattle.geda_geom.specs.declared.conductor.Point.{Point}
use Rattle.geda_geom.specs.declared.conductor.Conductor.{Conductor}
use Rattle.touch_index.specs.declared.grid.Grid.{Grid}
use Rattle.touch_index.specs.declared.grid.LinePoint.{LinePoint}
use Rattle.touch_index.specs.declared.strips.Strips.{Strips}
use Rattle.touch_index.specs.declared.spans.Mark.{Mark}
use Rattle.touch_index.specs.steps.Spans.{mark_of}
use Rattle.touch_index.specs.steps.Strips.{HasMark}
use Rattle.touch_index.specs.steps.Grid.{SomeAlong, ends_of, row_point, column_point}

-- a number that a coordinate holds
abbrev pub IsHeld : ℤ → Type 0
IsHeld (pos n) = n < 2147483648
IsHeld (negsuc n) = n < 2147483648

pub record IsPlace (p : Point) : Type 0 where
  pub x : IsHeld p.x
  pub y : IsHeld p.y

pub record HasPlaces (c : Conductor) : Type 0 where
  pub first : IsPlace (ends_of c).0
  pub second : IsPlace (ends_of c).1

-- the mark is one of those under a key that go from one point to another
abbrev pub IsAlong : LinePoint → LinePoint → Key → Mark → Type 0
IsAlong a b key m = SomeAlong (λ s. m ≡ mark_of s key) a b

-- no more marks are there than before, but for these
abbrev pub AddsAlong : LinePoint → LinePoint → Key → Strips → Strips → Type 0
AddsAlong a b key old new =
    (m : Mark) → HasMark new m → HasMark old m ⊎ IsAlong a b key m

-- no more marks are there than before, and none of these
abbrev pub LosesAlong : LinePoint → LinePoint → Key → Strips → Strips → Type 0
LosesAlong a b key old new =
    (m : Mark) → HasMark new m → HasMark old m × (IsAlong a b key m → ⊥)

-- the mark is one of those of a conductor, whose points lie so on lines
abbrev pub IsMarkOf : (Point → LinePoint) → Conductor → Key → Mark → Type 0
IsMarkOf at c key m = IsAlong (at (ends_of c).0) (at (ends_of c).1) key m

-- the marks of a conductor come, or go
pub record AddsMarks (c : Conductor) (key : Key) (old new : Grid) : Type 0 where
  pub places : HasPlaces c
  pub rows : AddsAlong (row_point (ends_of c).0) (row_point (ends_of c).1) key old.rows new.rows
  pub columns : AddsAlong (column_point (ends_of c).0) (column_point (ends_of c).1) key
      old.columns new.columns

pub record LosesMarks (c : Conductor) (key : Key) (old new : Grid) : Type 0 where
  pub rows : LosesAlong (row_point (ends_of c).0) (row_point (ends_of c).1) key old.rows new.rows
  pub columns : LosesAlong (column_point (ends_of c).0) (column_point (ends_of c).1) key
      old.columns new.columns

-- each mark is one of the conductor at its key
pub record IsDrawn (at : Key → Option Conductor) (lie : Point → LinePoint) (m : Mark)
    : Type 0 where
  pub conductor : Conductor
  pub there : at m.key ≡ Some conductor
  pub places : HasPlaces conductor
  pub mark : IsMarkOf lie conductor m.key m

pub record AreDrawn (at : Key → Option Conductor) (grid : Grid) : Type 0 where
  pub rows : (m : Mark) → HasMark grid.rows m → IsDrawn at row_point m
  pub columns : (m : Mark) → HasMark grid.columns m → IsDrawn at column_point m

pub record HasNoMarks (grid : Grid) : Type 0 where
  pub rows : grid.rows.spans.entries ≡ []
  pub columns : grid.columns.spans.entries ≡ []
