use Rattle.std.proofs.Common.{◌≡◌, ◌++◌, drop, filter, map}
use Rattle.project_model.specs.Tables.{row_now}
use Rattle.board_core.specs.Changed.{is_changed}
use Rattle.board_core.proofs.rows.changed_among.Given as goal

abbrev pub invariant-loop-row : goal.invariant-loop-row
invariant-loop-row l = map row_now l.changed.items ++ filter (is_changed l.things) (map row_now (drop l.row-index l.rows))
    ≡ filter (is_changed l.things) (map row_now l.rows)
