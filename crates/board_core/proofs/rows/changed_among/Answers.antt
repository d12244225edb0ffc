use Rattle.std.proofs.Common.{◌++◌, ◌+◌, drop, filter, map, ap, ◌∙◌, arith}
use Rattle.project_model.specs.Tables.{row_now}
use Rattle.board_core.specs.Changed.{is_changed}
use Rattle.board_core.proofs.GatherLemmas.{filtered_more}
use Rattle.board_core.proofs.rows.changed_among.Goals as goal

pub loop-row-preserved : goal.loop-row-preserved
loop-row-preserved c =
    let t = is_changed c.args.things.now in
    let rows = c.args.rows.now in
    ap (λ all. map row_now all ++ filter t (map row_now (drop (c.loop-row.row-index + 1) rows))) c.in_ok-push_if.ensures
    ∙ filtered_more c.loop-row.changed.items (filter (is_changed c.args.things.now) (map row_now c.args.rows.now)) t rows c.loop-row.row-index c.row-item.result c.is_changed.result (omega arith) c.row-item.is c.loop-row.invariant c.is_changed.ensures
