use Rattle.std.proofs.Common.{◌++◌, ◌+◌, drop, filter, map, ap, ◌∙◌, arith}
use Rattle.project_model.specs.Projects.{is_on}
use Rattle.project_model.specs.Tables.{row_now}
use Rattle.board_core.proofs.GatherLemmas.{filtered_more}
use Rattle.board_core.proofs.rows.rows_among.Goals as goal

pub loop-row-preserved : goal.loop-row-preserved
loop-row-preserved c =
    let t = is_on c.args.sheet.now in
    let rows = c.args.rows.now in
    ap (λ all. map row_now all ++ filter t (map row_now (drop (c.loop-row.row-index + 1) rows))) c.in_ok-push_if.ensures
    ∙ filtered_more c.loop-row.found.items (filter t (map row_now rows)) t rows c.loop-row.row-index c.row-item.result c.eq.result (omega arith) c.row-item.is c.loop-row.invariant c.eq.ensures
