use Rattle.std.proofs.Common.{◌≡◌, ◌∙◌, rules}
use Rattle.std.specs.List.{sum_by}
use Rattle.conductor_counts.specs.steps.Rows.{row_conductors}
use Rattle.conductor_counts.proofs.Counting.{all_rows}
use Rattle.conductor_counts.proofs.projects.count_conductors.Goals as goal

pub returns : goal.returns
returns c =
    let p = c.args.project.now.contents in
    let sum : c.in_ok-count.count ≡ sum_by (row_conductors p.symbols) c.in_ok-objects.objects.items = search rules in
    sum ∙ all_rows p c.in_ok-objects.objects.items c.in_ok-objects.ensures.objects
