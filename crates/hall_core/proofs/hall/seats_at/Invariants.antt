use Rattle.std.proofs.Common.{◌≡◌, ◌≤◌, ◌+◌, ◌-◌, ◌*◌, All, length}
use Rattle.hall_core.specs.Seats.{IsNew}
use Rattle.hall_core.proofs.hall.seats_at.Given as goal

-- so many seats are there, each with its allowance
abbrev pub invariant-loop-made : goal.invariant-loop-made
invariant-loop-made g l =
    All (IsNew l.desk.shown) l.seats.items × (length l.seats.items ≡ l.made) × (l.made ≤ l.count) × (l.owed.total ≡ l.made * 4294967295) × (l.rest.parts + l.made ≡ l.count) × (l.rest.amount ≡ 0)
    × (l.fn.places.refused ≤ l.places.refused)

abbrev pub decreases-loop-made : goal.decreases-loop-made
decreases-loop-made g l = l.count - l.made
