use Rattle.std.proofs.Common.{◌≡◌, ap, ◌∙◌, length, Option, rules}
use Rattle.geda_model.specs.Shapes.{ComponentData}
use Rattle.geda_model.specs.Sheets.{SymbolData}
use Rattle.pin_place.specs.Plans.{library_parts}
use Rattle.conductor_counts.specs.Conductors.{named, net_pins}
use Rattle.conductor_counts.proofs.Counting.{length-ends_in}
use Rattle.conductor_counts.proofs.objects.library_pins.Goals as goal

pub returns-in-Some-clause-pins : goal.returns-in-Some-clause-pins
returns-in-Some-clause-pins c =
    ap length c.ends.ensures
    ∙ (length-ends_in 0 _
    ∙ (ap (λ (library : Option SymbolData). net_pins (library_parts library)) (c.in-Some.ensures ∙ ap (named c.args.tables.now.symbols) c.as_str-basename.ensures.text)
    ∙ ap (λ (component : ComponentData). net_pins (library_parts (named c.args.tables.now.symbols component.basename))) c.component.view_is))

pub returns-clause-pins : goal.returns-clause-pins
returns-clause-pins c =
    let table : c.in_ok-table.table ≡ named c.args.tables.now.symbols c.args.component.now.basename = search rules in
    ap length c.ends-2.ensures ∙ (length-ends_in 0 _ ∙ ap (λ (library : Option SymbolData). net_pins (library_parts library)) table)
