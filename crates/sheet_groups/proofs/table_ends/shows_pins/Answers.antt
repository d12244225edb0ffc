use Rattle.std.proofs.Common.{◌≡◌, ◌∙◌, false, None, ap, is_some, sym}
use Rattle.std.specs.Prelude.{codes}
use Rattle.attr_rules.specs.FirstValues.{first_named}
use Rattle.sheet_groups.proofs.TableLaws.{none_lent, not_so, pins_shown}
use Rattle.sheet_groups.proofs.table_ends.shows_pins.Goals as goal

pub returns : goal.returns
returns c = λ so.
    let o = c.args.object.now in
    let own = c.first_value.result in
    let texts = c.as_slice.ensures.texts ∙ ap (λ o. o.attrs) c.object.view_is in
    let e : is_some own ≡ false = let h = c.if-is_some.ensures in let g = c.if-is_some.false in cc in
    let none : first_named o.attrs (codes "graphical") ≡ None = sym (ap (λ ts. first_named ts (codes "graphical")) texts) ∙ sym c.first_value.ensures ∙ none_lent own e in
    pins_shown o c.args.table.now c.args.component.now c.requires.body c.requires.alone none c.values.result.now c.values.ensures (sym c.is_graphical.ensures ∙ not_so c.is_graphical.result so)
