use Rattle.std.proofs.Common.{◌≤◌, ◌+◌, drop, length, map, rules, subst, ◌∙◌, arith}
use Rattle.std.proofs.lemmas.List.{drop_all}
use Rattle.project_model.specs.Tables.{row_now}
use Rattle.board_core.specs.steps.Kept.{sheets_at}
use Rattle.board_core.proofs.GatherLemmas.{next_sheet}
use Rattle.board_core.proofs.OpenLemmas.{IsOpening, opening_ends, opening_more}
use Rattle.board_core.proofs.grouped.open_all.Goals as goal

pub loop-row-preserved : goal.loop-row-preserved
loop-row-preserved c =
    let rows = c.args.rows.now in
    let l = c.loop-row in
    let all = sheets_at (map row_now rows) in
    let left = sheets_at (map row_now (drop (l.row-index + 1) rows)) in
    let way = subst (IsOpening l.groups.rows all) (next_sheet rows l.row-index c.row-item.result (omega arith) c.row-item.is) l.invariant.0 in (
      opening_more l.groups.rows c.open.new.self.rows all c.row-item.result.1.now.sheet left way c.in_ok-open.ensures.kept c.in_ok-open.ensures.conductors c.open.ensures.others,
      c.open.ensures.steps ∙ l.invariant.1,
    )

pub returns-clause-kept : goal.returns-clause-kept
returns-clause-kept c =
    let rows = c.args.rows.now in
    let l = c.loop-row in
    let past : length rows ≤ l.row-index = search rules in
    let all = sheets_at (map row_now rows) in
    opening_ends l.groups.rows all (subst (λ rs. IsOpening l.groups.rows all (sheets_at (map row_now rs))) (drop_all l.row-index rows past) l.invariant.0)
