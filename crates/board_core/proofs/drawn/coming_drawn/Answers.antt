use Rattle.std.proofs.Common.{◌≡◌, false, map, ap, ◌∙◌, subst}
use Rattle.std.proofs.lemmas.Result.{IfOk-weaker}
use Rattle.project_model.specs.Tables.{row_now}
use Rattle.board_core.specs.steps.ChangedThings.{HasNoSymbol}
use Rattle.board_core.specs.steps.Standing.{come, coming_drawn, coming_rows, drawn_in}
use Rattle.board_core.proofs.OwnLemmas.{drawn_same}
use Rattle.board_core.proofs.drawn.coming_drawn.Goals as goal

pub returns-then-not-has_symbols : goal.returns-then-not-has_symbols
returns-then-not-has_symbols c =
    let p = c.args.project.now.contents in
    let items = c.args.change.now.items in
    let plain : c.has_symbols.result ≡ false = let h = c.if-not-has_symbols.true in cc in
    let none = subst HasNoSymbol c.requires.same (c.has_symbols.ensures plain) in
    IfOk-weaker c.drawn_in.result (λ all. all.items ≡ map come (drawn_in p (map row_now c.args.rows.now))) (λ all. all.items ≡ map come (coming_drawn p items))
    (λ all is. is ∙ ap (λ rows. map come (drawn_in p rows)) c.requires.rows ∙ ap (map come) (drawn_same p items none (coming_rows p items))) c.drawn_in.ensures

pub returns : goal.returns
returns c =
    let p = c.args.project.now.contents in
    let items = c.args.change.now.items in
    IfOk-weaker c.drawn_in-2.result (λ all. all.items ≡ map come (drawn_in c.in_ok-after.after.contents (map row_now c.args.rows.now))) (λ all. all.items ≡ map come (coming_drawn p items))
    (λ all is. is ∙ (λ i. map come (drawn_in (c.in_ok-after.ensures i) (c.requires.rows i)))) c.drawn_in-2.ensures
