use Rattle.std.proofs.Common.{◌≡◌, drop, map}
use Rattle.project_model.specs.Tables.{row_now}
use Rattle.board_core.specs.steps.Kept.{sheets_at}
use Rattle.board_core.proofs.OpenLemmas.{IsOpening}
use Rattle.board_core.proofs.grouped.open_all.Given as goal

abbrev pub invariant-loop-row : goal.invariant-loop-row
invariant-loop-row l = IsOpening l.groups.rows (sheets_at (map row_now l.rows)) (sheets_at (map row_now (drop l.row-index l.rows)))
    × (l.groups.steps ≡ l.fn.groups.steps)
