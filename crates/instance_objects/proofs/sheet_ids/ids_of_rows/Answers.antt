use Rattle.std.proofs.Common.{arith}
use Rattle.instance_objects.proofs.SheetIdLemmas.{table_more}
use Rattle.instance_objects.proofs.sheet_ids.ids_of_rows.Goals as goal

pub loop-place-preserved : goal.loop-place-preserved
loop-place-preserved c = record {
  within = c.in_ok-place.ensures.end;
  ids = table_more c.loop-place.table c.add_run.new.table c.args.rows.now c.loop-place.place c.in_ok-place.place c.index-rows-place.result (omega arith) c.index-rows-place.is c.in_ok-place.ensures.ids c.loop-place.invariant.ids;
}
