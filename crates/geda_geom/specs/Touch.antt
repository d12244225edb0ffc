-- When two conductors touch (own, after the active ends of gEDA pins): crossing is not touching,
-- and a slanting segment is joined at its ends alone.
use Rattle.std.specs.Prelude.{◌≡◌, ◌⊎◌, ℤ, ◌<ℤ◌}
use Rattle.geda_geom.specs.declared.conductor.Point.{Point}
use Rattle.geda_geom.specs.declared.conductor.Conductor.{Conductor}
use Rattle.geda_geom.specs.declared.conductor.Conductor.TheVariants.{Segment, End}

-- some end of the conductor is so
abbrev pub SomeEnd : (Point → Type 0) → Conductor → Type 0
SomeEnd P (Segment a b) = P a ⊎ P b
SomeEnd P (End at) = P at

-- strictly between two numbers, in either order
abbrev pub IsBetween : ℤ → ℤ → ℤ → Type 0
IsBetween q r p = ((q <ℤ p) × (p <ℤ r)) ⊎ ((r <ℤ p) × (p <ℤ q))

-- the number that both are
abbrev pub IsLevel : ℤ → ℤ → ℤ → Type 0
IsLevel first second p = (p ≡ first) × (p ≡ second)

-- strictly inside a vertical segment
abbrev pub IsInsideUpright : Point → Point → Point → Type 0
IsInsideUpright a b p = IsLevel a.x b.x p.x × IsBetween a.y b.y p.y

-- strictly inside a horizontal segment
abbrev pub IsInsideFlat : Point → Point → Point → Type 0
IsInsideFlat a b p = IsLevel a.y b.y p.y × IsBetween a.x b.x p.x

-- strictly inside the conductor
abbrev pub IsInside : Conductor → Point → Type 0
IsInside (Segment a b) p = IsInsideUpright a b p ⊎ IsInsideFlat a b p
IsInside (End at) p = ⊥

-- one point
abbrev pub IsAt : Point → Point → Type 0
IsAt p q = (p.x ≡ q.x) × (p.y ≡ q.y)

-- the point is an end of the conductor
abbrev pub IsEnd : Conductor → Point → Type 0
IsEnd c p = SomeEnd (IsAt p) c

-- an end of one is an end of the other, or lies inside the other
abbrev pub Touch : Conductor → Conductor → Type 0
Touch a b = SomeEnd (IsEnd b) a ⊎ (SomeEnd (IsInside b) a ⊎ SomeEnd (IsInside a) b)

-- a vertical segment from a to b and a horizontal one from c to d, each strictly passing the other
pub record AreCrossing (a b c d : Point) : Type 0 where
  pub upright : a.x ≡ b.x
  pub flat : c.y ≡ d.y
  pub passes_up : IsBetween a.y b.y c.y
  pub passes_across : IsBetween c.x d.x a.x
