use Rattle.std.proofs.Common.{take}
use Rattle.group_runs.specs.Sheets.{kept_at}
use Rattle.board_core.specs.steps.Reading.{LeastRows}
use Rattle.board_core.proofs.local.least_rows.Given as goal

abbrev pub invariant-loop-one : goal.invariant-loop-one
invariant-loop-one l = LeastRows (kept_at l.groups.rows) (take l.one-index l.drawn) l.rows.items
