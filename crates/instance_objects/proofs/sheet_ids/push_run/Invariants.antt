use Rattle.std.proofs.Common.{drop, map}
use Rattle.project_model.specs.Tables.{row_now}
use Rattle.instance_objects.specs.steps.SheetIds.{PutsRun}
use Rattle.instance_objects.proofs.sheet_ids.push_run.Given as goal

abbrev pub invariant-loop-place : goal.invariant-loop-place
invariant-loop-place l =
    PutsRun l.sheet l.fn.ids l.ids (map row_now (drop l.from l.rows)) (map row_now (drop l.place l.rows))
