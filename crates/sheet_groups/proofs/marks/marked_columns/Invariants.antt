use Rattle.std.proofs.Common.{true}
use Rattle.sheet_groups.specs.steps.Rows.{AreRowsOf}
use Rattle.sheet_groups.proofs.marks.marked_columns.Given as goal

abbrev pub invariant-loop-place : goal.invariant-loop-place
invariant-loop-place l = AreRowsOf true l.conductors l.place l.rows.items
