use Rattle.std.proofs.Common.{◌≡◌, ◌∙◌, true, Option, Some, ap, subst, sym, option_copied}
use Rattle.std.specs.Prelude.{codes}
use Rattle.geda_model.specs.Sheets.{ObjectData, SymbolData}
use Rattle.attr_rules.specs.Attributes.{attr}
use Rattle.attr_rules.specs.FirstValues.{ValuesData, first_values, values_of}
use Rattle.symbol_tables.proofs.PinLaws.{plain, slot_is, values_are}
use Rattle.component_checks.specs.steps.CheckedValues.{checked_by}
use Rattle.component_checks.specs.steps.SoundSymbols.{faults_of, symbol_faults}
use Rattle.component_checks.specs.steps.ToldPins.{AreAlike, drawn_of}
use Rattle.component_checks.proofs.PlanLemmas.{plan_alike}
use Rattle.component_checks.proofs.SoundLemmas.{faults_by}
use Rattle.component_checks.proofs.ValueLemmas.{checked_by-is, no_annotation}
use Rattle.component_checks.proofs.gathering.checked_by_table.Goals as goal

pub by_plan-requires : goal.by_plan-requires
by_plan-requires c =
    let o = c.args.found.now.flat.object in
    let table = c.args.table.now in
    let component = c.args.component.now in
    let own = c.of_texts-own.result in
    let inherited = c.values.result.now in
    let values = c.over-values.result in
    let own_is : own ≡ first_values o.attrs = c.of_texts-own.ensures ∙ ap first_values (c.as_slice.ensures.texts ∙ ap (λ o. o.attrs) (c.object.view_is ∙ c.object-object.ensures)) in
    let yes : c.is_plain.result ≡ true = let h = c.if-not-is_plain.false in cc in
    let is_plain = plain o table component c.requires.body c.requires.alone own inherited values own_is c.values.ensures c.over-values.ensures (c.is_plain.ensures yes) in
    let slot = option_copied c.values-2.inside.slot in
    let same : slot ≡ attr o table (codes "slot") = ap (λ (v : ValuesData). v.slot) c.values-2.view_is
    ∙ slot_is o table component c.requires.body c.requires.alone own inherited values own_is c.values.ensures c.over-values.ensures in
    let plan = c.in-Some.plan.now in
    let alike = plan_alike o table component c.requires.body c.requires.alone is_plain slot same plan.drawn.items c.in-Some.ensures.0 in
    subst (λ (o : ObjectData). AreAlike plan.drawn.items (drawn_of o (option_copied c.library-library.result))) (sym c.object-object.ensures)
    (subst (λ (l : Option SymbolData). AreAlike plan.drawn.items (drawn_of o l)) (sym c.library-library.ensures) alike)

pub checked_by-requires : goal.checked_by-requires
checked_by-requires c =
    let o = c.args.found.now.flat.object in
    let own = c.of_texts-own.result in
    let own_is : own ≡ first_values o.attrs = c.of_texts-own.ensures ∙ ap first_values (c.as_slice.ensures.texts ∙ ap (λ o. o.attrs) (c.object.view_is ∙ c.object-object.ensures)) in
    values_are o c.args.table.now c.args.component.now c.requires.body c.requires.alone own c.values.result.now c.over-values.result own_is c.values.ensures c.over-values.ensures
    ∙ ap (values_of o) (sym c.library-library.ensures)

pub value_faults-requires : goal.value_faults-requires
value_faults-requires c =
    let o = c.args.found.now.flat.object in
    let table = c.args.table.now in
    let own = c.of_texts-own.result in
    let own_is : own ≡ first_values o.attrs = c.of_texts-own.ensures ∙ ap first_values (c.as_slice.ensures.texts ∙ ap (λ o. o.attrs) (c.object.view_is ∙ c.object-object.ensures)) in
    values_are o table c.args.component.now c.requires.body c.requires.alone own c.values.result.now c.over-values.result own_is c.values.ensures c.over-values.ensures
    ∙ ap (λ (o : ObjectData). values_of o table) (sym c.object-object.ensures)
    ∙ ap (values_of c.object-object.result.now) (sym c.library-library.ensures)

pub returns-in_ok-made-in-Some : goal.returns-in_ok-made-in-Some
returns-in_ok-made-in-Some c = λ are named.
    let p = c.args.found.now.project in
    let f = c.args.found.now.flat in
    let o = f.object in
    let table = c.args.table.now in
    let component = c.args.component.now in
    let own = c.of_texts-own.result in
    let values = c.over-values.result in
    let own_is : own ≡ first_values o.attrs = c.of_texts-own.ensures ∙ ap first_values (c.as_slice.ensures.texts ∙ ap (λ o. o.attrs) (c.object.view_is ∙ c.object-object.ensures)) in
    let is = values_are o table component c.requires.body c.requires.alone own c.values.result.now values own_is c.values.ensures c.over-values.ensures in
    let yes : c.is_plain.result ≡ true = let h = c.if-not-is_plain.false in cc in
    let says = c.is_plain.ensures yes in
    let none = no_annotation o table values is component c.requires.body own says in
    let pins = c.in_ok-pins-in-Some.pins in
    let drawn : pins ≡ drawn_of o table = c.in_ok-pins-in-Some.ensures
    ∙ ap (λ (o : ObjectData). drawn_of o (option_copied c.library-library.result)) c.object-object.ensures
    ∙ ap (drawn_of o) c.library-library.ensures in
    let here : faults_of c.object-object.result.now (option_copied c.library-library.result) values.slot ≡ faults_of o table values.slot =
    ap (λ (o : ObjectData). faults_of o (option_copied c.library-library.result) values.slot) c.object-object.ensures
    ∙ ap (λ (l : Option SymbolData). faults_of o l values.slot) c.library-library.ensures in
    let faults = c.in_ok-faults-in-Some.faults in
    let found : faults ≡ faults_of o table values.slot = c.in_ok-faults-in-Some.ensures (λ sure.
    here ∙ faults_by o table component c.requires.body c.requires.alone own values own_is is says values.slot
    ∙ ap (λ (l : Option SymbolData). symbol_faults l values.slot) named
    ∙ c.is_sound-known.ensures p are sure)
    ∙ here in
    rw none (ap Some (sym (
    c.in_ok-made-in-Some.ensures
    ∙ ap (λ (l : Option SymbolData). checked_by p f component l values faults pins) c.library-library.ensures
    ∙ checked_by-is p f table component c.requires.body values is faults found pins drawn
    )))
