use Rattle.std.proofs.Common.{◌≡◌, ◌∙◌, IfOk, IfSome, Option, Some, ap, subst, sym}
use Rattle.geda_model.specs.Shapes.{ComponentData}
use Rattle.geda_model.specs.Sheets.{SymbolData}
use Rattle.project_model.specs.Projects.{ProjectData}
use Rattle.attr_rules.specs.Libraries.{library_of, symbol_named}
use Rattle.symbol_tables.proofs.TableLemmas.{library_is}
use Rattle.component_checks.specs.CheckedComponents.{checked_component}
use Rattle.component_checks.proofs.gathering.checked_by_tables.Goals as goal

pub returns-in-Some : goal.returns-in-Some
returns-in-Some c =
    let p = c.args.found.now.project in
    let f = c.args.found.now.flat in
    let component = c.args.component.now in
    let name = c.as_str.result.now in
    let basename : name ≡ component.basename = c.as_str.ensures.text ∙ ap (λ (d : ComponentData). d.basename) c.component.view_is in
    let library : c.in-Some.table.now ≡ library_of p f.object = c.in-Some.ensures ∙ ap (λ (q : ProjectData). symbol_named q name) c.requires.same ∙ ap (symbol_named p) basename
    ∙ sym (library_is p f.object component c.requires.body) in
    subst (λ (l : Option SymbolData). IfOk c.checked_by_table.result (λ known. IfSome known (λ made. checked_component p f component l ≡ Some made))) library
    (c.checked_by_table.ensures c.requires.sound (library ∙ library_is p f.object component c.requires.body))
