use Rattle.touch_index.proofs.DrawnLemmas.{loses_at, loses_marks}
use Rattle.touch_index.proofs.grid.Grid.leave.Goals as goal

pub returns-clause-only : goal.returns-clause-only
returns-clause-only c =
    let rows = loses_at _ _ _ _ c.args.key c.args.self.now.rows c.leave_along.new.strips c.row_point.ensures.same c.row_point-2.ensures.same c.leave_along.ensures.only in
    let columns = loses_at _ _ _ _ c.args.key c.args.self.now.columns c.leave_along-2.new.strips c.column_point.ensures c.column_point-2.ensures c.leave_along-2.ensures.only in
    loses_marks c.args.conductor.now c.args.key c.args.self.now (record { rows = c.leave_along.new.strips; columns = c.leave_along-2.new.strips }) c.ends_of.result c.ends_of.ensures rows columns
