use Rattle.std.proofs.Common.{◌≤◌, ◌+◌, drop, inr, length, map, rules, subst, arith}
use Rattle.std.specs.HashSet.{contains_text}
use Rattle.std.proofs.lemmas.List.{drop_all}
use Rattle.project_model.specs.Tables.{row_now}
use Rattle.board_core.proofs.NameLemmas.{IsLearning, learning_ends, learning_more, next_row}
use Rattle.board_core.proofs.symbol_names.learn_rows.Goals as goal

pub loop-row-init : goal.loop-row-init
loop-row-init c = (λ row h. inr h, λ name known. known)

pub loop-row-preserved : goal.loop-row-preserved
loop-row-preserved c =
    let rows = c.args.rows.now in
    let l = c.loop-row in
    let old = contains_text l.names in
    let new = contains_text c.learn_object.new.names in
    let way = subst (IsLearning old (map row_now rows)) (next_row rows l.row-index c.row-item.result (omega arith) c.row-item.is) l.invariant.0 in (
      learning_more old new (map row_now rows) (row_now c.row-item.result) (map row_now (drop (l.row-index + 1) rows)) c.learn_object.ensures.more c.in_ok-learn_object.ensures.known way,
      λ name known. c.learn_object.ensures.more name (l.invariant.1 name known),
    )

pub returns-in_err-learn_object-clause-more : goal.returns-in_err-learn_object-clause-more
returns-in_err-learn_object-clause-more c = λ name known. c.learn_object.ensures.more name (c.loop-row.invariant.1 name known)

pub returns-clause-known : goal.returns-clause-known
returns-clause-known c =
    let rows = c.args.rows.now in
    let l = c.loop-row in
    let past : length rows ≤ l.row-index = search rules in
    let known = contains_text l.names in
    learning_ends known (map row_now rows) (subst (λ rs. IsLearning known (map row_now rows) (map row_now rs)) (drop_all l.row-index rows past) l.invariant.0)
