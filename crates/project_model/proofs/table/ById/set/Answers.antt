use Rattle.std.proofs.Common.{sym, ap, ◌∙◌}
use Rattle.std.specs.FinMap as map
use Rattle.project_model.proofs.Rows.{ids, get_row, remove_row}
use Rattle.project_model.proofs.table.ById.set.Goals as goal

pub returns-in-None-clause-old : goal.returns-in-None-clause-old
returns-in-None-clause-old g c = c.remove.ensures.value ∙ sym (get_row ids c.self.inside.rows.entries c.args.id) ∙ ap (λ t. map.get t.rows c.args.id) c.self.view_is

pub returns-in-None-clause-rows : goal.returns-in-None-clause-rows
returns-in-None-clause-rows g c =
    rw c.in-None.is (
    remove_row ids c.self.inside.rows.entries c.remove.new.self.entries c.args.id c.remove.ensures.updates.0
    ∙ ap (λ t. map.remove t.rows c.args.id) c.self.view_is)
