use Rattle.std.proofs.Common.{◌≡◌, ◌≤◌, ◌-◌, length, IfSome}
use mathlib.Core.List.{IsPrefix}
use Rattle.hall_core.proofs.rows.read_rows.Given as goal

-- the rows so far are the history
abbrev pub invariant-rows : goal.invariant-rows
invariant-rows g l =
    IfSome (g.K.Keeper.rows l.fn.keeper) (λ all. IsPrefix l.desk.history all) × (g.K.Keeper.rows l.keeper ≡ g.K.Keeper.rows l.fn.keeper)
    × (g.K.Keeper.faults l.fn.keeper ≤ g.K.Keeper.faults l.keeper) × (g.K.Keeper.never_fails l.fn.keeper → g.K.Keeper.never_fails l.keeper)

abbrev pub decreases-rows : goal.decreases-rows
decreases-rows g l = 200001 - length l.desk.history
