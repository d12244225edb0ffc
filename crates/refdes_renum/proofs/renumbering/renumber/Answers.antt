use Rattle.std.proofs.Common.{◌≡◌, IfOk, map, ap, subst, ◌∙◌}
use Rattle.std.specs.HashMap.{get_by_text}
use Rattle.std.specs.HashSet.{contains_text}
use Rattle.std.specs.List.{filter_map}
use Rattle.geda_defs.specs.Order.{once_in_order}
use Rattle.project_model.specs.Tables.{row_now}
use Rattle.refdes_renum.specs.Renumbering.{by_place, component_refdes, open_place, open_places, component_refdeses, renumbered, renumbered_at}
use Rattle.refdes_renum.specs.steps.UsedTexts.{Tracks}
use Rattle.refdes_renum.proofs.renumbering.renumber.Goals as goal

pub renumbered_at-requires : goal.renumbered_at-requires
unfolding component_refdeses
renumbered_at-requires c =
    let p = c.args.project.now.contents in
    subst (λ rows. Tracks (filter_map (λ row. component_refdes p row.1.object) rows) (contains_text c.in_ok-used.used.used) (get_by_text c.in_ok-used.used.next))
    (ap (map row_now) c.as_slice.ensures.value ∙ c.in_ok-rows.ensures.objects) c.in_ok-used.ensures

pub returns : goal.returns
unfolding renumbered open_places
returns c =
    let p = c.args.project.now.contents in
    subst (λ keys. IfOk c.renumbered_at.result (λ change. change.items ≡ renumbered_at p (component_refdeses p) keys))
    (c.in_ok-places.ensures ∙ ap (λ rows. once_in_order by_place (filter_map (open_place p) rows)) (ap (map row_now) c.as_slice-2.ensures.value ∙ c.in_ok-rows.ensures.objects))
    c.renumbered_at.ensures
