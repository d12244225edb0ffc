-- What the line of a component says (gEDA File Format Document).
use Rattle.std.specs.Prelude.{ℕ, ℤ, Bool, List}
use Rattle.geda_model.specs.Names.{IsWord}
use Rattle.geda_model.specs.Ranges.{IsCoordinate, IsAngle}

-- all of a component but its symbol
pub record ComponentLineData : Type 0 where
  pub x : ℤ
  pub y : ℤ
  pub selectable : Bool
  pub angle : ℕ
  pub mirror : Bool
  pub basename : List ℕ

-- each of its fields is in its range
pub record IsComponentLine (c : ComponentLineData) : Type 0 where
  pub x : IsCoordinate c.x
  pub y : IsCoordinate c.y
  pub angle : IsAngle c.angle
  pub basename : IsWord c.basename
