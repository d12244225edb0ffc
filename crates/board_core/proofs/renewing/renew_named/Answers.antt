use Rattle.std.proofs.Common.{◌≤◌, ◌+◌, drop, length, rules, subst, arith}
use Rattle.std.proofs.lemmas.List.{drop_all}
use Rattle.project_model.specs.Items.{Item}
use Rattle.board_core.specs.steps.Kept.{named_by, sheets_named}
use Rattle.board_core.specs.steps.Standing.{some_row}
use Rattle.board_core.proofs.GatherLemmas.{next_named}
use Rattle.board_core.proofs.RenewLemmas.{IsRenewing, renewing_breaks, renewing_ends, renewing_more}
use Rattle.board_core.proofs.renewing.renew_named.Goals as goal

pub loop-item-preserved : goal.loop-item-preserved
loop-item-preserved c =
    let p = c.args.project.now.contents in
    let items = c.args.items.now in
    let l = c.loop-item in
    let old = c.args.groups.now in
    let item : Item = c.item-item.result in
    let ys = sheets_named (drop (l.item-index + 1) items) in
    let way = subst (IsRenewing p old.rows l.groups.rows old.steps l.groups.steps (sheets_named items)) (next_named items l.item-index item (omega arith) c.item-item.is) l.invariant in
    renewing_more p old.rows l.groups.rows c.renew_thing.new.groups.rows old.steps l.groups.steps c.renew_thing.new.groups.steps (sheets_named items) (some_row (named_by item.0)) ys way
    c.renew_thing.ensures.renews c.in_ok-renew_thing.ensures.renewed

pub returns-in_err-renew_thing-clause-renews : goal.returns-in_err-renew_thing-clause-renews
returns-in_err-renew_thing-clause-renews c =
    let p = c.args.project.now.contents in
    let items = c.args.items.now in
    let l = c.loop-item in
    let old = c.args.groups.now in
    let item : Item = c.item-item.result in
    let ys = sheets_named (drop (l.item-index + 1) items) in
    let way = subst (IsRenewing p old.rows l.groups.rows old.steps l.groups.steps (sheets_named items)) (next_named items l.item-index item (omega arith) c.item-item.is) l.invariant in
    renewing_breaks p old.rows l.groups.rows c.renew_thing.new.groups.rows old.steps l.groups.steps c.renew_thing.new.groups.steps (sheets_named items) (some_row (named_by item.0)) ys way
    c.renew_thing.ensures.renews

pub returns : goal.returns
returns c =
    let p = c.args.project.now.contents in
    let items = c.args.items.now in
    let l = c.loop-item in
    let old = c.args.groups.now in
    let past : length items ≤ l.item-index = search rules in
    let ends = renewing_ends p old.rows l.groups.rows old.steps l.groups.steps (sheets_named items)
    (subst (λ rs. IsRenewing p old.rows l.groups.rows old.steps l.groups.steps (sheets_named items) (sheets_named rs)) (drop_all l.item-index items past) l.invariant) in
    record { renews = ends.0; renewed = ends.1 }
