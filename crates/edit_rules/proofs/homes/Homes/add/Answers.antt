use Rattle.std.proofs.Common.{ap, ◌∙◌}
use Rattle.std.specs.FinMap as map
use Rattle.project_model.proofs.Rows.{names, put_row}
use Rattle.edit_rules.proofs.homes.Homes.add.Goals as goal

pub returns-clause-rows : goal.returns-clause-rows
returns-clause-rows c =
    let updates = rw (c.unwrap.ensures, c.name.ensures) at c.insert-put.ensures.updates in
    put_row names c.self.inside.rows.entries c.insert-put.new.self.entries c.args.name.now 0 updates.0
    ∙ ap (λ t. map.insert t.rows c.args.name.now 0) c.self.view_is
