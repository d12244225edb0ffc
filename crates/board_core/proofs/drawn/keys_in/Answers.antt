use Rattle.std.proofs.Common.{◌≡◌, List, map, ap, ◌∙◌}
use Rattle.std.proofs.lemmas.Result.{IfOk-weaker}
use Rattle.group_runs.specs.Runs.{Coming}
use Rattle.project_model.specs.Tables.{row_now}
use Rattle.board_core.specs.steps.Standing.{drawn_in, leave, without_shape}
use Rattle.board_core.proofs.GatherLemmas.{shapes_gone}
use Rattle.board_core.proofs.drawn.keys_in.Goals as goal

pub returns : goal.returns
returns c =
    let cs = drawn_in c.args.project.now.contents (map row_now c.args.rows.now) in
    IfOk-weaker c.without_shapes.result (λ all. all.items ≡ map without_shape c.in_ok-drawn.drawn.items) (λ all. all.items ≡ map leave cs)
    (λ all is. is ∙ ap (λ (ds : List Coming). map without_shape ds) c.in_ok-drawn.ensures ∙ shapes_gone cs) c.without_shapes.ensures
