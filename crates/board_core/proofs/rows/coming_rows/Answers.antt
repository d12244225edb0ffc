use Rattle.std.proofs.Common.{◌++◌, ℕ, List, map, filter, ap, ◌∙◌}
use Rattle.std.specs.FinMap.{entries}
use Rattle.project_model.specs.declared.change.Placed.{Placed}
use Rattle.project_model.specs.Items.{Item}
use Rattle.project_model.specs.Tables.{row_now}
use Rattle.board_core.specs.Bounds.{is_renewed}
use Rattle.board_core.specs.steps.Standing.{given_rows}
use Rattle.board_core.proofs.OwnLemmas.{renewed_changed}
use Rattle.board_core.proofs.rows.coming_rows.Goals as goal

pub returns : goal.returns
returns c =
    let items = c.args.things.now in
    let renewed : List (ℕ × Placed) = filter (is_renewed items) (map row_now c.args.changed.now) in
    λ p are.
    c.in_ok-push_renewed.ensures
    ∙ ap (λ rows. rows ++ renewed) (c.in_ok-coming.ensures ∙ ap (λ (some : List Item). given_rows some) c.items.ensures)
    ∙ ap (λ (rows : List (ℕ × Placed)). given_rows items ++ filter (is_renewed items) rows) are
    ∙ ap (λ rows. given_rows items ++ rows) (renewed_changed items (entries p.objects))
