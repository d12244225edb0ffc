use Rattle.std.proofs.Common.{sym, ap, ◌∙◌}
use Rattle.std.specs.FinMap as map
use Rattle.project_model.proofs.Rows.{names, get_row}
use Rattle.edit_rules.proofs.homes.Homes.row.Goals as goal

pub returns : goal.returns
returns c = c.get.ensures.value ∙ sym (get_row names c.self.inside.rows.entries c.args.name.now) ∙ ap (λ t. map.get t.rows c.args.name.now) c.self.view_is
