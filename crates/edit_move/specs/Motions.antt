-- Where a motion takes points, angles and mirror flags (own).
use Rattle.std.specs.Prelude.{ℕ, ℤ, ◌+◌, ◌-◌, ◌*◌, ◌%◌, ◌<◌, ◌≤◌, ◌+ℤ◌, unsigned_abs, nat_le, Bool, ◌&&◌, not, if◌then◌else◌, Option, None, Some}
use Rattle.geda_geom.specs.declared.conductor.Point.{Point}
use Rattle.geda_geom.specs.Placing.{IsOnSheet, turned_about}
use Rattle.edit_move.specs.declared.motion.Motion.{Motion}
use Rattle.edit_move.specs.declared.motion.Motion.TheVariants.{Shift, Turn}

-- a distance along one axis that is not greater than the sheet
abbrev pub IsOffset : ℤ → Type 0
IsOffset z = unsigned_abs z ≤ 400000

-- the numbers of a motion are in their ranges
abbrev pub IsMotion : Motion → Type 0
IsMotion (Shift dx dy) = IsOffset dx × IsOffset dy
IsMotion (Turn about quarter mirror) = IsOnSheet about × (quarter < 4)

-- both coordinates are -200,000 to 200,000
abbrev pub is_on_sheet : Point → Bool
is_on_sheet p = nat_le (unsigned_abs p.x) 200000 && nat_le (unsigned_abs p.y) 200000

-- where a point comes
abbrev pub taken : Motion → Point → Point
taken (Shift dx dy) p = record { x = p.x +ℤ dx; y = p.y +ℤ dy }
taken (Turn about quarter mirror) p = turned_about p about quarter mirror

-- where a point comes, if it does not leave the sheet
unfoldable pub point_after : Motion → Point → Option Point
point_after motion p = if is_on_sheet (taken motion p) then Some (taken motion p) else None

-- the angle of a text, which grows by that of the turn
abbrev pub text_angle : Motion → ℕ → ℕ
text_angle (Shift dx dy) angle = angle
text_angle (Turn about quarter mirror) angle = (angle + 90 * quarter) % 360

-- the angle of a component: that of the turn is added or, where the turn mirrors, the component's
-- own one is taken off that of the turn
abbrev pub component_angle : Motion → ℕ → ℕ
component_angle (Shift dx dy) angle = angle
component_angle (Turn about quarter mirror) angle =
    if mirror then (90 * quarter + (360 - angle)) % 360 else (angle + 90 * quarter) % 360

-- the mirror flag of a component, which a turn that mirrors flips
abbrev pub component_mirror : Motion → Bool → Bool
component_mirror (Shift dx dy) flag = flag
component_mirror (Turn about quarter mirror) flag = if mirror then not flag else flag
