use Rattle.std.proofs.Common.{◌≡◌, ◌++◌}
use Rattle.project_model.specs.steps.TableRows.{ids_in_rows}
use Rattle.project_model.proofs.ordered.ids_in.Given as goal

abbrev pub invariant-loop-id : goal.invariant-loop-id
invariant-loop-id l = l.ids.items ++ ids_in_rows l.name l.id-iterator ≡ ids_in_rows l.name l.rows.entries
