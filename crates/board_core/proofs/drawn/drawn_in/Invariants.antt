use Rattle.std.proofs.Common.{◌≡◌, ◌++◌, drop, map}
use Rattle.project_model.specs.Tables.{row_now}
use Rattle.board_core.specs.steps.Standing.{come, drawn_in}
use Rattle.board_core.proofs.drawn.drawn_in.Given as goal

abbrev pub invariant-loop-row : goal.invariant-loop-row
invariant-loop-row l = l.all.items ++ map come (drawn_in l.project.contents (map row_now (drop l.row-index l.rows)))
    ≡ map come (drawn_in l.project.contents (map row_now l.rows))
