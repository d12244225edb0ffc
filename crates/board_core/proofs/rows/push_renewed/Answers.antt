use Rattle.std.proofs.Common.{◌++◌, ◌+◌, drop, filter, map, ap, ◌∙◌, arith}
use Rattle.project_model.specs.Tables.{row_now}
use Rattle.board_core.specs.Bounds.{is_renewed}
use Rattle.board_core.proofs.GatherLemmas.{filtered_more}
use Rattle.board_core.proofs.rows.push_renewed.Goals as goal

pub loop-row-preserved : goal.loop-row-preserved
loop-row-preserved c =
    let t = is_renewed c.args.things.now in
    let rows = c.args.rows.now in
    ap (λ all. map row_now all ++ filter t (map row_now (drop (c.loop-row.row-index + 1) rows))) c.in_ok-push_if.ensures
    ∙ filtered_more c.loop-row.all.items (map row_now c.args.all.now.items ++ filter (is_renewed c.args.things.now) (map row_now c.args.rows.now)) t rows c.loop-row.row-index c.row-item.result c.is_renewed.result (omega arith) c.row-item.is c.loop-row.invariant c.is_renewed.ensures
