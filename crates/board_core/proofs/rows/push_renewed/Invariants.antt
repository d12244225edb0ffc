use Rattle.std.proofs.Common.{◌≡◌, ◌++◌, drop, filter, map}
use Rattle.project_model.specs.Tables.{row_now}
use Rattle.board_core.specs.Bounds.{is_renewed}
use Rattle.board_core.proofs.rows.push_renewed.Given as goal

abbrev pub invariant-loop-row : goal.invariant-loop-row
invariant-loop-row l = map row_now l.all.items ++ filter (is_renewed l.things) (map row_now (drop l.row-index l.rows))
    ≡ map row_now l.fn.all.items ++ filter (is_renewed l.things) (map row_now l.rows)
