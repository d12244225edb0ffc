-- Where a point of a library symbol stands on the sheet (gEDA File Format Document, components),
-- and where a point comes that is turned about another one (own).
use Rattle.std.specs.Prelude.{ℕ, ◌≤◌, ◌≡◌, ◌⊎◌, ◌==◌, ◌*◌, ◌+ℤ◌, ◌-ℤ◌, neg_ℤ, unsigned_abs, Bool, if◌then◌else◌}
use Rattle.geda_geom.specs.declared.conductor.Point.{Point}
use Rattle.geda_geom.specs.declared.placing.Placement.{Placement}

-- both coordinates are -200,000 to 200,000
pub record IsOnSheet (p : Point) : Type 0 where
  pub x : unsigned_abs p.x ≤ 200000
  pub y : unsigned_abs p.y ≤ 200000

-- a place on the sheet, and one of the four angles
pub record IsPlacement (by : Placement) : Type 0 where
  pub x : unsigned_abs by.x ≤ 200000
  pub y : unsigned_abs by.y ≤ 200000
  pub angle : (by.angle ≡ 0) ⊎ ((by.angle ≡ 90) ⊎ ((by.angle ≡ 180) ⊎ (by.angle ≡ 270)))

-- mirrored: x becomes -x
abbrev pub mirrored : Bool → Point → Point
mirrored mirror p = if mirror then record { x = neg_ℤ p.x; y = p.y } else p

-- turned counterclockwise round the origin by an angle in degrees
abbrev pub turned : ℕ → Point → Point
turned angle p =
    if angle == 0 then p else (
    if angle == 90 then record { x = neg_ℤ p.y; y = p.x } else (
    if angle == 180 then record { x = neg_ℤ p.x; y = neg_ℤ p.y } else
    record { x = p.y; y = neg_ℤ p.x }))

-- shifted to the place of the component
abbrev pub shifted : Placement → Point → Point
shifted by p = record { x = by.x +ℤ p.x; y = by.y +ℤ p.y }

-- mirrored first, then turned, then shifted
abbrev pub placed : Point → Placement → Point
placed p by = shifted by (turned by.angle (mirrored by.mirror p))

-- a point, as seen from another one
abbrev pub seen_from : Point → Point → Point
seen_from about p = record { x = p.x -ℤ about.x; y = p.y -ℤ about.y }

-- turned about a point by a number of right angles, counterclockwise, and mirrored before: as a
-- symbol that stands at that point is placed
abbrev pub turned_about : Point → Point → ℕ → Bool → Point
turned_about p about quarter mirror =
    placed (seen_from about p)
    (record { x = about.x; y = about.y; angle = 90 * quarter; mirror = mirror })

-- both coordinates of a difference of two points of the sheet are -400,000 to 400,000
pub record IsStep (p : Point) : Type 0 where
  pub x : unsigned_abs p.x ≤ 400000
  pub y : unsigned_abs p.y ≤ 400000
