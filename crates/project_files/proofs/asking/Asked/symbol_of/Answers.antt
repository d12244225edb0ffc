use Rattle.std.proofs.Common.{Option, Some, ap, ◌∙◌}
use Rattle.std.specs.Prelude.{option_and_then}
use Rattle.geda_model.specs.Sheets.{SymbolData}
use Rattle.project_files.specs.steps.Progress.{AskedData}
use Rattle.project_files.specs.steps.Asking.{symbol_of}
use Rattle.project_files.proofs.AskingLemmas.{lookup_symbol}
use Rattle.project_files.proofs.asking.Asked.symbol_of.Goals as goal

pub returns-in-None-get : goal.returns-in-None-get
returns-in-None-get c =
    let name = c.in-Some.name in
    let none = c.in-None-get.ensures.value in
    let found = ap (option_and_then (λ (s : Option SymbolData). s)) none ∙ lookup_symbol name c.self.inside.symbols.entries ∙ ap (λ (a : AskedData). symbol_of a.symbols (Some name)) c.self.view_is in
    rw c.in-Some.is found

pub returns-in-Some-get : goal.returns-in-Some-get
returns-in-Some-get c =
    let name = c.in-Some.name in
    let some = c.in-Some-get.ensures.value in
    let found = c.as_ref.ensures.value ∙ ap (option_and_then (λ (s : Option SymbolData). s)) some ∙ lookup_symbol name c.self.inside.symbols.entries ∙ ap (λ (a : AskedData). symbol_of a.symbols (Some name)) c.self.view_is in
    rw c.in-Some.is found
