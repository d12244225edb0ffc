use Rattle.std.proofs.Common.{sym, ap, ◌∙◌}
use Rattle.std.specs.FinMap as map
use Rattle.project_model.proofs.Rows.{ids, get_row}
use Rattle.project_model.proofs.table.ById.get.Goals as goal

pub returns : goal.returns
returns g c = c.get.ensures.value ∙ sym (get_row ids c.self.inside.rows.entries c.args.id) ∙ ap (λ t. map.get t.rows c.args.id) c.self.view_is
