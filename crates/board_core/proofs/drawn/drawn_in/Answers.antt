use Rattle.std.proofs.Common.{◌++◌, ◌+◌, drop, map, ap, ◌∙◌, arith}
use Rattle.project_model.specs.Tables.{row_now}
use Rattle.board_core.specs.steps.Standing.{come, drawn_in}
use Rattle.board_core.proofs.GatherLemmas.{drawn_more}
use Rattle.board_core.proofs.drawn.drawn_in.Goals as goal

pub loop-row-preserved : goal.loop-row-preserved
loop-row-preserved c =
    let p = c.args.project.now.contents in
    let rows = c.args.rows.now in
    ap (λ all. all ++ map come (drawn_in p (map row_now (drop (c.loop-row.row-index + 1) rows)))) c.in_ok-push_object.ensures
    ∙ drawn_more p c.loop-row.all.items (map come (drawn_in p (map row_now rows))) rows c.loop-row.row-index c.row-item.result (omega arith) c.row-item.is c.loop-row.invariant
