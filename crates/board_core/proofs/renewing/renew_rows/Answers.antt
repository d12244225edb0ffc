use Rattle.std.proofs.Common.{◌≤◌, ◌∷◌, ◌+◌, [], drop, length, map, rules, subst, arith}
use Rattle.std.proofs.lemmas.List.{drop_all}
use Rattle.project_model.specs.Tables.{row_now}
use Rattle.board_core.specs.steps.Kept.{sheets_at}
use Rattle.board_core.proofs.GatherLemmas.{next_sheet}
use Rattle.board_core.proofs.RenewLemmas.{IsRenewing, renewing_breaks, renewing_ends, renewing_more}
use Rattle.board_core.proofs.renewing.renew_rows.Goals as goal

pub loop-row-preserved : goal.loop-row-preserved
loop-row-preserved c =
    let p = c.args.project.now.contents in
    let rows = c.args.rows.now in
    let l = c.loop-row in
    let old = c.args.groups.now in
    let sheet = c.row-item.result.1.now.sheet in
    let ys = sheets_at (map row_now (drop (l.row-index + 1) rows)) in
    let way = subst (IsRenewing p old.rows l.groups.rows old.steps l.groups.steps (sheets_at (map row_now rows))) (next_sheet rows l.row-index c.row-item.result (omega arith) c.row-item.is) l.invariant in
    renewing_more p old.rows l.groups.rows c.renew_sheet.new.groups.rows old.steps l.groups.steps c.renew_sheet.new.groups.steps (sheets_at (map row_now rows)) (sheet ∷ []) ys way
    c.renew_sheet.ensures.renews c.in_ok-renew_sheet.ensures.renewed

pub returns-in_err-renew_sheet-clause-renews : goal.returns-in_err-renew_sheet-clause-renews
returns-in_err-renew_sheet-clause-renews c =
    let p = c.args.project.now.contents in
    let rows = c.args.rows.now in
    let l = c.loop-row in
    let old = c.args.groups.now in
    let sheet = c.row-item.result.1.now.sheet in
    let ys = sheets_at (map row_now (drop (l.row-index + 1) rows)) in
    let way = subst (IsRenewing p old.rows l.groups.rows old.steps l.groups.steps (sheets_at (map row_now rows))) (next_sheet rows l.row-index c.row-item.result (omega arith) c.row-item.is) l.invariant in
    renewing_breaks p old.rows l.groups.rows c.renew_sheet.new.groups.rows old.steps l.groups.steps c.renew_sheet.new.groups.steps (sheets_at (map row_now rows)) (sheet ∷ []) ys way
    c.renew_sheet.ensures.renews

pub returns : goal.returns
returns c =
    let p = c.args.project.now.contents in
    let rows = c.args.rows.now in
    let l = c.loop-row in
    let old = c.args.groups.now in
    let past : length rows ≤ l.row-index = search rules in
    let ends = renewing_ends p old.rows l.groups.rows old.steps l.groups.steps (sheets_at (map row_now rows))
    (subst (λ rs. IsRenewing p old.rows l.groups.rows old.steps l.groups.steps (sheets_at (map row_now rows)) (sheets_at (map row_now rs))) (drop_all l.row-index rows past) l.invariant) in
    record { renews = ends.0; renewed = ends.1 }
