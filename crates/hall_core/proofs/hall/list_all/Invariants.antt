use Rattle.std.proofs.Common.{◌≡◌, ◌≤◌, ◌-◌, length, take}
use Rattle.hall_core.proofs.hall.list_all.Given as goal

-- the entries so far are in the list
abbrev pub invariant-loop-serial : goal.invariant-loop-serial
invariant-loop-serial g l = (l.listed ≡ take l.serial l.desk.history) × (l.serial ≤ length l.desk.history)

abbrev pub decreases-loop-serial : goal.decreases-loop-serial
decreases-loop-serial g l = length l.desk.history - l.serial
