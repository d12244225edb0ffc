use Rattle.std.proofs.Common.{List, ap, ◌∙◌}
use Rattle.project_model.specs.Items.{Item}
use Rattle.board_core.specs.steps.Standing.{own_rows}
use Rattle.board_core.proofs.GatherLemmas.{if_ok_on}
use Rattle.board_core.proofs.OwnLemmas.{own_found}
use Rattle.board_core.proofs.changed.Things.own_rows.Goals as goal

pub returns : goal.returns
returns c =
    let p = c.args.project.now.contents in
    if_ok_on c.found_rows.result
    (λ rows is rising. is ∙ own_found p c.self.inside.items.now c.self.inside.ids rising c.self.invariant.objects ∙ ap (λ (items : List Item). own_rows p items) c.self.view_is)
    c.found_rows.ensures.rows c.found_rows.ensures.rising
