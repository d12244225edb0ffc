use Rattle.std.proofs.Common.{◌≡◌, ◌∙◌, ◌++◌, true, map, refl, ap, sym, option_copied}
use Rattle.attr_rules.specs.FirstValues.{ValuesData, first_values}
use Rattle.pin_place.specs.Plans.{put_pin}
use Rattle.symbol_tables.proofs.PinLaws.{pins_by, values_are}
use Rattle.flat_sheets.proofs.planned.values_and_plan.Goals as goal

pub returns-in-Some-clause-values : goal.returns-in-Some-clause-values
returns-in-Some-clause-values c =
    let o = c.args.object.now in
    let own = c.of_texts-own.result in
    let own_is : own ≡ first_values o.attrs = c.of_texts-own.ensures ∙ ap first_values (c.as_slice.ensures.texts ∙ ap (λ o. o.attrs) c.object.view_is) in
    values_are o c.args.table.now c.args.component.now c.requires.body c.requires.alone own c.values.result.now c.over-values.result own_is c.values.ensures c.over-values.ensures

pub returns-in-Some-clause-pins : goal.returns-in-Some-clause-pins
returns-in-Some-clause-pins c =
    let o = c.args.object.now in
    let own = c.of_texts-own.result in
    let values = c.over-values.result in
    let own_is : own ≡ first_values o.attrs = c.of_texts-own.ensures ∙ ap first_values (c.as_slice.ensures.texts ∙ ap (λ o. o.attrs) c.object.view_is) in
    let yes : c.is_plain.result ≡ true = let h = c.if-not-is_plain.false in cc in
    let slot = option_copied c.values-2.inside.slot in
    let same : slot ≡ values.slot = ap (λ (v : ValuesData). v.slot) c.values-2.view_is in
    let plan = c.in-Some.plan.now in
    sym (pins_by o c.args.table.now c.args.component.now c.requires.body c.requires.alone own c.values.result.now values own_is c.values.ensures c.over-values.ensures
    (c.is_plain.ensures yes) slot same plan.drawn.items plan.hidden.items (map (put_pin c.args.component.now) plan.drawn.items ++ plan.hidden.items) c.in-Some.ensures.0 c.in-Some.ensures.1 refl)
