use Rattle.std.proofs.Common.{ap, ◌∙◌}
use Rattle.project_model.proofs.Rows.{names, same_rows}
use Rattle.edit_rules.proofs.homes.Homes.reserve.Goals as goal

pub returns-clause-rows : goal.returns-clause-rows
returns-clause-rows c =
    same_rows names c.self.inside.rows.entries c.reserve.new.self.entries c.reserve.ensures.entries.2
    ∙ ap (λ t. t.rows) c.self.view_is
