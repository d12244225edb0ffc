use Rattle.std.proofs.Common.{◌++◌, map}
use Rattle.net_flood.proofs.Outcomes.{on_ok}
use Rattle.project_model.specs.Tables.{row_now}
use Rattle.board_core.specs.steps.Kept.{sheets_at, sheets_named}
use Rattle.board_core.proofs.RenewLemmas.{renewed_more, renews_more, renews_part}
use Rattle.board_core.proofs.regroup.renew_touched.Goals as goal

pub returns-in_err-renew_rows-clause-renews : goal.returns-in_err-renew_rows-clause-renews
returns-in_err-renew_rows-clause-renews c =
    let p = c.args.project.now.contents in
    let xs = sheets_at (map row_now c.args.before.now) in
    let ys = sheets_at (map row_now c.args.after.now) in
    let zs = sheets_named c.args.items.now in
    let old = c.args.groups.now in
    let one = c.renew_rows.new.groups in
    renews_part p old.rows one.rows old.steps one.steps xs (ys ++ zs) c.renew_rows.ensures.renews

pub returns-in_err-renew_rows-2-clause-renews : goal.returns-in_err-renew_rows-2-clause-renews
returns-in_err-renew_rows-2-clause-renews c =
    let p = c.args.project.now.contents in
    let xs = sheets_at (map row_now c.args.before.now) in
    let ys = sheets_at (map row_now c.args.after.now) in
    let zs = sheets_named c.args.items.now in
    let old = c.args.groups.now in
    let one = c.renew_rows.new.groups in
    let two = c.renew_rows-2.new.groups in
    renews_more p old.rows one.rows two.rows old.steps one.steps two.steps xs (ys ++ zs) c.renew_rows.ensures.renews c.in_ok-renew_rows.ensures.renewed
    (renews_part p one.rows two.rows one.steps two.steps ys zs c.renew_rows-2.ensures.renews)

pub returns : goal.returns
returns c =
    let p = c.args.project.now.contents in
    let xs = sheets_at (map row_now c.args.before.now) in
    let ys = sheets_at (map row_now c.args.after.now) in
    let zs = sheets_named c.args.items.now in
    let old = c.args.groups.now in
    let one = c.renew_rows.new.groups in
    let two = c.renew_rows-2.new.groups in
    let new = c.renew_named.new.groups in
    let last = renews_more p one.rows two.rows new.rows one.steps two.steps new.steps ys zs c.renew_rows-2.ensures.renews c.in_ok-renew_rows-2.ensures.renewed c.renew_named.ensures.renews in
    record {
      renews = renews_more p old.rows one.rows new.rows old.steps one.steps new.steps xs (ys ++ zs) c.renew_rows.ensures.renews c.in_ok-renew_rows.ensures.renewed last;
      renewed = on_ok c.renew_named.result (λ all.
          renewed_more p old.rows one.rows new.rows old.steps one.steps new.steps xs (ys ++ zs) last c.in_ok-renew_rows.ensures.renewed
          (renewed_more p one.rows two.rows new.rows one.steps two.steps new.steps ys zs c.renew_named.ensures.renews c.in_ok-renew_rows-2.ensures.renewed all)) c.renew_named.ensures.renewed;
    }
