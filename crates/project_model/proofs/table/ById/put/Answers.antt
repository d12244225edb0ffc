use Rattle.std.proofs.Common.{sym, ap, ◌∙◌}
use Rattle.std.specs.FinMap as map
use Rattle.project_model.proofs.Rows.{ids, get_row, put_row}
use Rattle.project_model.proofs.table.ById.put.Goals as goal

pub returns-clause-old : goal.returns-clause-old
returns-clause-old g c =
    let old = rw c.unwrap.ensures at c.insert.ensures.old in
    old ∙ sym (get_row ids c.self.inside.rows.entries c.args.id) ∙ ap (λ t. map.get t.rows c.args.id) c.self.view_is

pub returns-clause-rows : goal.returns-clause-rows
returns-clause-rows g c =
    let updates = rw c.unwrap.ensures at c.insert.ensures.updates in
    put_row ids c.self.inside.rows.entries c.insert.new.self.entries c.args.id c.args.row updates.0
    ∙ ap (λ t. map.insert t.rows c.args.id c.args.row) c.self.view_is
