use Rattle.std.proofs.Common.{ap, ◌∙◌}
use Rattle.project_model.specs.Projects.{empty_project}
use Rattle.project_model.specs.Changes.{put}
use Rattle.project_files.specs.Gathering.{Gathered}
use Rattle.project_files.specs.Opening.{gathered_items}
use Rattle.project_files.proofs.OpeningLemmas.{opened_whole}
use Rattle.project_files.proofs.opening.project_from.Goals as goal

pub returns : goal.returns
returns c =
    let inside : Gathered = record { queue = c.gathered.inside.queue.items; sheets = c.gathered.inside.sheets.items; symbols = c.gathered.inside.symbols.items } in
    opened_whole inside c.reserve_for.new.self.contents c.put_sheets.new.project.contents c.put_symbols.new.project.contents
    (c.in_ok-reserve_for.ensures.contents ∙ c.new-project.ensures.contents) c.in_ok-put_sheets.ensures.contents c.put_symbols.ensures.contents
    ∙ ap (λ (g : Gathered). put empty_project (gathered_items g)) c.gathered.view_is
