use Rattle.net_flood.proofs.Outcomes.{on_ok}
use Rattle.board_core.proofs.RenewLemmas.{renewed_kept, renewed_one, renews_none, renews_one}
use Rattle.std.proofs.Common.{◌∷◌, [], arith}
use Rattle.board_core.proofs.renewing.renew_sheet.Goals as goal

pub returns-then-is_kept : goal.returns-then-is_kept
returns-then-is_kept c =
    let old = c.args.groups.now in
    record {
      renews = renews_none c.args.project.now.contents old.rows old.steps (c.args.sheet.now ∷ []) c.requires.held;
      renewed = renewed_kept old.rows c.args.sheet.now (c.is_kept.ensures.0 c.if-is_kept.true);
    }

pub returns : goal.returns
returns c =
    let old = c.args.groups.now in
    let new = c.group_sheet.new.groups in
    let e = c.group_sheet.ensures in
    record {
      renews = renews_one c.args.project.now.contents old.rows new.rows old.steps new.steps c.args.sheet.now e.held e.others e.still e.later e.free;
      renewed = on_ok c.group_sheet.result (renewed_one c.args.project.now.contents old.rows new.rows old.steps new.steps c.args.sheet.now e.others) e.kept;
    }

pub returns-then-is_fresh : goal.returns-then-is_fresh
returns-then-is_fresh c =
    let old = c.args.groups.now in
    let new = c.begin_sheet.new.groups in
    let e = c.begin_sheet.ensures in
    let same = e.steps in
    record {
      renews = renews_one c.args.project.now.contents old.rows new.rows old.steps new.steps c.args.sheet.now (e.held c.args.project.now.contents c.requires.held) e.others e.still (omega (arith, same)) (λ gone. omega (arith, same));
      renewed = on_ok c.begin_sheet.result (renewed_one c.args.project.now.contents old.rows new.rows old.steps new.steps c.args.sheet.now e.others) e.kept;
    }
