use Rattle.std.proofs.Common.{ap, ◌∙◌}
use Rattle.net_flood.proofs.Outcomes.{on_ok}
use Rattle.group_runs.specs.Sheets.{SheetsData, kept_at}
use Rattle.group_runs.proofs.RowLemmas.{opened_same}
use Rattle.group_runs.proofs.sheets.SheetGroups.open.Goals as goal

pub returns-clause-conductors : goal.returns-clause-conductors
returns-clause-conductors c =
    on_ok c.open.result (λ sets.
    opened_same c.self.inside.rows.entries c.open.new.rows.entries c.args.sheet.now c.open.ensures.others sets.are
    ∙ ap (λ (d : SheetsData). kept_at d.rows) c.self.view_is) c.open.ensures.sets
