use Rattle.std.proofs.Common.{◌≡◌, ◌∙◌, ap, map}
use Rattle.std.specs.FinMap.{entries}
use Rattle.project_model.specs.Tables.{row_now}
use Rattle.instance_objects.specs.SheetIds.{AreIdsBySheet}
use Rattle.instance_objects.specs.steps.SheetIds.{AreIdsOf, ids_in}
use Rattle.instance_objects.proofs.Outcomes.{if_ok}
use Rattle.instance_objects.proofs.SheetIdLemmas.{ids_in-are}
use Rattle.instance_objects.proofs.sheet_ids.ids_by_sheet.Goals as goal

pub returns : goal.returns
returns c =
    let p = c.args.project.now.contents in
    let rows : map row_now c.as_slice.result.now ≡ entries p.objects = ap (map row_now) c.as_slice.ensures.value ∙ c.in_ok-rows.ensures.objects in
    if_ok (AreIdsOf (map row_now c.as_slice.result.now)) (AreIdsBySheet p)
    (λ table are name. are name ∙ ap (λ rs. ids_in rs name) rows ∙ ids_in-are (entries p.objects) name) c.ids_of_rows.result c.ids_of_rows.ensures
