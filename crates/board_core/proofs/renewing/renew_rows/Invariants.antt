use Rattle.std.proofs.Common.{drop, map}
use Rattle.project_model.specs.Tables.{row_now}
use Rattle.board_core.specs.steps.Kept.{sheets_at}
use Rattle.board_core.proofs.RenewLemmas.{IsRenewing}
use Rattle.board_core.proofs.renewing.renew_rows.Given as goal

abbrev pub invariant-loop-row : goal.invariant-loop-row
invariant-loop-row l = IsRenewing l.project.contents l.fn.groups.rows l.groups.rows l.fn.groups.steps l.groups.steps
    (sheets_at (map row_now l.rows)) (sheets_at (map row_now (drop l.row-index l.rows)))
