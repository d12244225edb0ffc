use Rattle.std.proofs.Common.{◌≡◌, ◌++◌, ◌∷◌, ℕ, List, map, ap, subst, ◌∙◌}
use Rattle.project_model.specs.Tables.{row_now}
use Rattle.board_core.specs.steps.Standing.{found_row, found_rows}
use Rattle.board_core.proofs.GatherLemmas.{found_more}
use Rattle.board_core.proofs.changed.found_rows.Goals as goal

pub loop-id-preserved : goal.loop-id-preserved
loop-id-preserved c =
    let p = c.args.project.now.contents in
    let all = found_rows p c.args.ids.now.keys in
    let rows = c.loop-id.rows.items in
    let before : map row_now rows ++ found_rows p (c.in-Some.id.now ∷ c.next.new.self) ≡ all = subst (λ (ids : List ℕ). map row_now rows ++ found_rows p ids ≡ all) c.in-Some.ensures.steps c.loop-id.invariant in
    ap (λ more. map row_now more ++ found_rows p c.next.new.self) c.in_ok-push_some.ensures
    ∙ found_more rows all (found_row p) c.in-Some.id.now c.next.new.self c.found_row.result before c.found_row.ensures
