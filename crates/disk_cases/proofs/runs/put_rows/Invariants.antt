use Rattle.std.proofs.Common.{◌≡◌, None}
use Rattle.disk_cases.proofs.runs.put_rows.Given as goal

-- the keeper still tells no rows
abbrev pub invariant-loop-row : goal.invariant-loop-row
invariant-loop-row g l = g.K.Keeper.rows l.keeper ≡ None
