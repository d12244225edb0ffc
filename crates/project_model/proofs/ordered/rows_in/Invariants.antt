use Rattle.std.proofs.Common.{◌≡◌, ◌++◌, map}
use Rattle.project_model.specs.Tables.{row_now}
use Rattle.project_model.proofs.ordered.rows_in.Given as goal

abbrev pub invariant-loop-id : goal.invariant-loop-id
invariant-loop-id g l = map row_now l.found.items ++ l.id-iterator ≡ l.rows.entries
