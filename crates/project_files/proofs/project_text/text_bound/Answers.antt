use Rattle.std.proofs.Common.{ap, ◌∙◌}
use Rattle.project_files.specs.Gathering.{Gathered}
use Rattle.project_files.proofs.TextLemmas.{bound_of_parts}
use Rattle.project_files.proofs.project_text.text_bound.Goals as goal

pub returns : goal.returns
returns c =
    bound_of_parts c.args.gathered.now c.deref.result.now c.deref-2.result.now c.bound_of_sheets.result c.bytes_of_symbols.result c.saturating_add.result
    (c.deref.ensures.value ∙ ap (λ (g : Gathered). g.sheets) c.gathered.view_is) (c.deref-2.ensures.value ∙ ap (λ (g : Gathered). g.symbols) c.gathered.view_is)
    c.bound_of_sheets.ensures c.bytes_of_symbols.ensures c.saturating_add.ensures
