use Rattle.std.proofs.Common.{arith, drop, map}
use Rattle.project_model.specs.Tables.{row_now}
use Rattle.instance_objects.proofs.SheetIdLemmas.{puts_more, same_text}
use Rattle.instance_objects.proofs.sheet_ids.push_run.Goals as goal

pub loop-place-preserved : goal.loop-place-preserved
loop-place-preserved c =
    let rows = c.args.rows.now in
    let row = c.index-rows-place.result in
    let sheet = c.args.sheet.now in
    puts_more sheet c.args.ids.now c.loop-place.ids c.push.new.self (map row_now (drop c.args.from rows)) rows c.loop-place.place row
    (omega arith) c.index-rows-place.is (same_text row.1.now.sheet sheet c.ne.result c.ne.ensures c.if-ne.false) c.in_ok-push.ensures.ok c.loop-place.invariant
