use Rattle.std.proofs.Common.{List, Option, None, sym, subst}
use Rattle.geda_model.specs.Sheets.{SymbolData}
use Rattle.project_files.specs.Gathering.{AskedSymbol, named_symbol}
use Rattle.project_files.specs.steps.Progress.{AskedData}
use Rattle.project_files.specs.steps.Asking.{IsKnown}
use Rattle.project_files.proofs.AskingLemmas.{found_known}
use Rattle.project_files.proofs.asking.Asked.symbol_under.Goals as goal

pub returns : goal.returns
returns c =
    let text = c.args.text.now in
    let name = c.in_ok-name.name.now in
    let symbol : Option SymbolData = c.in_ok-name.symbol.now in
    let entries : List AskedSymbol = c.self.inside.symbols.entries in
    let is : IsKnown entries (named_symbol text None) symbol = found_known entries text name symbol (sym c.in_ok-name.ensures.key) c.as_str.ensures.name (sym c.in_ok-name.ensures.value) in
    subst (λ (library : Option SymbolData). IsKnown c.args.self.now.symbols (named_symbol text None) library) (sym c.as_ref.ensures.value)
    (subst (λ (asked : AskedData). IsKnown asked.symbols (named_symbol text None) symbol) c.self.view_is is)
