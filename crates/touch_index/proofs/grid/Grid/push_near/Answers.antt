use Rattle.touch_index.specs.steps.Strips.{FindsOn}
use Rattle.touch_index.proofs.GridLemmas.{along_at, along_to, in_grid_by, met_at, met_in, on_ok}
use Rattle.touch_index.proofs.StripLemmas.{finds_later}
use Rattle.touch_index.proofs.grid.Grid.push_near.Goals as goal

pub returns-clause-found : goal.returns-clause-found
returns-clause-found c =
    let rows = c.args.self.now.rows in
    let columns = c.args.self.now.columns in
    let all = c.args.wanted.all in
    let own = c.args.wanted.own in
    let old = c.push_along.new.keys.items in
    let new = c.push_along-2.new.keys.items in
    let row = along_at (FindsOn all rows own old) _ _ _ _ c.row_point.ensures.same c.row_point-2.ensures.same c.in_ok-push_along.ensures.found in
    on_ok c.push_along-2.result (λ kept found.
    in_grid_by (FindsOn all rows own new) (FindsOn all columns own new) c.args.conductor.now c.ends_of.result c.ends_of.ensures
    (along_to (FindsOn all rows own old) (FindsOn all rows own new) _ _ (finds_later all rows own old new kept) row)
    (along_at (FindsOn all columns own new) _ _ _ _ c.column_point.ensures c.column_point-2.ensures found))
    c.push_along-2.ensures.kept c.push_along-2.ensures.found

pub returns-clause-only : goal.returns-clause-only
returns-clause-only c =
    let grid = c.args.self.now in
    let own = c.args.wanted.own in
    let old = c.args.keys.now.items in
    let mid = c.push_along.new.keys.items in
    let new = c.push_along-2.new.keys.items in
    let rows = met_at grid.rows _ _ _ _ own old mid c.row_point.ensures.same c.row_point-2.ensures.same c.in_ok-push_along.ensures.only in
    on_ok c.push_along-2.result (λ kept only.
    met_in grid c.args.conductor.now own old mid new c.ends_of.result c.ends_of.ensures rows
    (met_at grid.columns _ _ _ _ own mid new c.column_point.ensures c.column_point-2.ensures only))
    c.push_along-2.ensures.kept c.push_along-2.ensures.only
