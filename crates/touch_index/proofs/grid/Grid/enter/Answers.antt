use Rattle.touch_index.specs.steps.Strips.{HasSpan}
use Rattle.touch_index.proofs.GridLemmas.{along_at, in_grid_by, on_ok}
use Rattle.touch_index.proofs.DrawnLemmas.{adds_at, adds_none, adds_marks}
use Rattle.touch_index.proofs.grid.Grid.enter.Goals as goal

pub returns-clause-has : goal.returns-clause-has
returns-clause-has c =
    let rows = along_at (λ s. HasSpan c.enter_along.new.strips s c.args.key) _ _ _ _ c.row_point.ensures.same c.row_point-2.ensures.same c.in_ok-enter_along.ensures.entered in
    on_ok c.enter_along-2.result (λ entered same.
    in_grid_by (λ s. HasSpan c.enter_along.new.strips s c.args.key) (λ s. HasSpan c.enter_along-2.new.strips s c.args.key) c.args.conductor.now c.ends_of.result c.ends_of.ensures
    rows (along_at (λ s. HasSpan c.enter_along-2.new.strips s c.args.key) _ _ _ _ c.column_point.ensures c.column_point-2.ensures entered))
    c.enter_along-2.ensures.entered c.enter_along-2.ensures.entered

pub returns-in_err-enter_along-clause-only : goal.returns-in_err-enter_along-clause-only
returns-in_err-enter_along-clause-only c =
    let rows = adds_at _ _ _ _ c.args.key c.args.self.now.rows c.enter_along.new.strips c.row_point.ensures.same c.row_point-2.ensures.same c.enter_along.ensures.only in
    adds_marks c.args.conductor.now c.args.key c.args.self.now (record { rows = c.enter_along.new.strips; columns = c.args.self.now.columns }) c.ends_of.result c.ends_of.ensures c.row_point.ensures.place c.row_point-2.ensures.place
    rows (adds_none _ _ c.args.key c.args.self.now.columns)

pub returns-clause-only : goal.returns-clause-only
returns-clause-only c =
    let rows = adds_at _ _ _ _ c.args.key c.args.self.now.rows c.enter_along.new.strips c.row_point.ensures.same c.row_point-2.ensures.same c.enter_along.ensures.only in
    let columns = adds_at _ _ _ _ c.args.key c.args.self.now.columns c.enter_along-2.new.strips c.column_point.ensures c.column_point-2.ensures c.enter_along-2.ensures.only in
    adds_marks c.args.conductor.now c.args.key c.args.self.now (record { rows = c.enter_along.new.strips; columns = c.enter_along-2.new.strips }) c.ends_of.result c.ends_of.ensures c.row_point.ensures.place c.row_point-2.ensures.place rows columns
