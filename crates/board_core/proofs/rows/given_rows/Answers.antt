use Rattle.std.proofs.Common.{◌≡◌, ◌++◌, ◌∷◌, ◌+◌, drop, map, ap, ◌∙◌}
use Rattle.std.proofs.lemmas.List.{drop_more}
use Rattle.project_model.specs.Items.{Item}
use Rattle.project_model.specs.Tables.{row_now}
use Rattle.board_core.specs.steps.Standing.{given_row, given_rows}
use Rattle.board_core.proofs.GatherLemmas.{found_more}
use Rattle.board_core.proofs.rows.given_rows.Goals as goal

pub loop-item-preserved : goal.loop-item-preserved
loop-item-preserved c =
    let items = c.args.items.now in
    let item : Item = c.item-item.result in
    let rest = drop (c.loop-item.item-index + 1) items in
    let before = c.loop-item.invariant in
    let now : map row_now c.loop-item.rows.items ++ given_rows (item ∷ rest) ≡ given_rows items = rw (drop_more items c.loop-item.item-index item c.loop-item-test.true, ← c.item-item.is) at before in
    ap (λ all. map row_now all ++ given_rows rest) c.in_ok-push_some.ensures
    ∙ found_more c.loop-item.rows.items (given_rows items) given_row item rest c.given_row.result now c.given_row.ensures
