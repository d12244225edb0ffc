use Rattle.std.proofs.Common.{length, ap, ◌∙◌, arith}
use Rattle.project_files.specs.Gathering.{Gathered}
use Rattle.project_files.specs.Opening.{all_objects, most_project_objects}
use Rattle.project_files.proofs.TextLemmas.{objects_of_sheets, past_limit}
use Rattle.project_files.proofs.project_text.has_too_many_objects.Goals as goal

pub returns : goal.returns
returns c =
    past_limit most_project_objects c.object_count.result (length (all_objects c.args.gathered.now)) (omega arith)
    (objects_of_sheets c.args.gathered.now c.deref.result.now c.object_count.result (c.deref.ensures.value ∙ ap (λ (g : Gathered). g.sheets) c.gathered.view_is) c.object_count.ensures)
