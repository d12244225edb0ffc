use Rattle.std.proofs.Common.{ap, ◌∙◌}
use Rattle.project_model.proofs.Rows.{ids, same_rows}
use Rattle.project_model.proofs.table.ById.reserve.Goals as goal

pub returns-clause-rows : goal.returns-clause-rows
returns-clause-rows g c =
    same_rows ids c.self.inside.rows.entries c.reserve.new.self.entries c.reserve.ensures.entries.2
    ∙ ap (λ t. t.rows) c.self.view_is
