use Rattle.std.proofs.Common.{◌≡◌, false, map, List, subst, ◌∙◌}
use Rattle.std.specs.HashSet.{contains_text}
use Rattle.std.proofs.lemmas.Result.{IfOk-weaker}
use Rattle.project_model.specs.Items.{Item}
use Rattle.project_model.specs.Tables.{row_now}
use Rattle.board_core.specs.steps.Standing.{changed_rows, own_rows}
use Rattle.board_core.specs.steps.SymbolNames.{HasNoneKnown}
use Rattle.board_core.proofs.NameLemmas.{own_changed}
use Rattle.board_core.proofs.rows.changed_rows.Goals as goal

pub returns-then-not-has_any : goal.returns-then-not-has_any
returns-then-not-has_any c =
    let p = c.args.project.now.contents in
    let items = c.args.things.now in
    let known = contains_text c.args.names.now in
    let plain : c.has_any.result ≡ false = let h = c.if-not-has_any.true in cc in
    let none = subst (λ (all : List Item). HasNoneKnown known all) c.items.ensures (c.has_any.ensures plain) in
    IfOk-weaker c.own_rows.result (λ rows. map row_now rows.items ≡ own_rows p items) (λ rows. map row_now rows.items ≡ changed_rows p items)
    (λ rows is. is ∙ own_changed p items known c.requires none) c.own_rows.ensures
