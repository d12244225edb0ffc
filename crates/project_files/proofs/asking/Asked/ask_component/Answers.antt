use Rattle.std.proofs.Common.{◌≡◌, ℕ, List, Option, Ok, Err, ap, subst, ◌∙◌, arith}
use Rattle.std.proofs.lemmas.Result.{err_from_is_err_and}
use Rattle.geda_model.specs.Sheets.{ObjectData}
use Rattle.project_files.specs.Gathering.{asked_symbol, sources_of}
use Rattle.project_files.specs.ProjectFiles.{with_view}
use Rattle.project_files.specs.steps.Progress.{AskedData, Asks, Leads}
use Rattle.project_files.specs.steps.Asking.{AsksComponent, AsksSymbol, AsksValues, symbol_of}
use Rattle.project_files.proofs.Passing.{answer_then, fault_later}
use Rattle.project_files.proofs.AskingLemmas.{asks_then, component_fault, component_then, leads_self, nothing_asked, out_as}
use Rattle.project_files.proofs.asking.Asked.ask_component.Goals as goal

pub returns-then-asks_nothing-clause-read : goal.returns-then-asks_nothing-clause-read
returns-then-asks_nothing-clause-read g c =
    let old : AskedData = c.args.self.now in
    let object : ObjectData = c.args.object.now in
    leads_self (g.F.Folder.files c.args.folder.now) old (λ known. AsksComponent old object known (Ok old)) (nothing_asked old object (c.asks_nothing.ensures c.if-asks_nothing.true))

pub returns-in_err-ask_symbol-clause-read : goal.returns-in_err-ask_symbol-clause-read
returns-in_err-ask_symbol-clause-read g c =
    let p = err_from_is_err_and c.from_residual-in_err-ask_symbol.result c.from_residual-in_err-ask_symbol.ensures.1 in
    let old : AskedData = c.args.self.now in
    let object : ObjectData = c.args.object.now in
    let files = g.F.Folder.files c.args.folder.now in
    let before = g.F.Folder.faults c.args.folder.now in
    let name = c.in_ok-name.name in
    let fault = c.in_err-ask_symbol.field-0.0 in
    rw (p.1, p.2) (fault_later before before _ (Asks files old (AsksSymbol old name)) (Asks files old (AsksComponent old object)) fault (omega arith)
    (out_as files old (λ known. AsksSymbol old name known (Err fault)) (λ known. AsksComponent old object known (Err fault))
    (λ known h. component_fault old object known fault (subst (λ (n : Option (List ℕ)). AsksSymbol old n known (Err fault)) c.in_ok-name.ensures h)))
    c.in_err-ask_symbol.ensures.read)

pub returns-clause-read : goal.returns-clause-read
returns-clause-read g c =
    let old : AskedData = c.args.self.now in
    let mid : AskedData = c.ask_symbol.new.self in
    let new : AskedData = c.ask_values.new.self in
    let object : ObjectData = c.args.object.now in
    let files = g.F.Folder.files c.args.folder.now in
    let now = g.F.Folder.files c.ask_symbol.new.folder in
    let name = c.in_ok-name.name in
    let named : name ≡ asked_symbol object = c.in_ok-name.ensures in
    let values : List (List ℕ) = c.as_slice.result.now in
    let is : values ≡ sources_of object (symbol_of mid.symbols (asked_symbol object)) =
    c.as_slice.ensures ∙ c.in_ok-values.ensures ∙ ap (λ (n : Option (List ℕ)). sources_of object (symbol_of mid.symbols n)) named in
    let first : Leads files old mid (λ known. AsksSymbol old (asked_symbol object) known (Ok mid)) =
    subst (λ (n : Option (List ℕ)). Leads files old mid (λ known. AsksSymbol old n known (Ok mid))) named c.in_ok-ask_symbol.ensures.read in
    answer_then (g.F.Folder.faults c.args.folder.now) (g.F.Folder.faults c.ask_symbol.new.folder) _ (Asks now mid (AsksValues mid values)) (Asks files old (AsksComponent old object)) (λ _. new) (λ _. new) c.ask_values.result c.in_ok-ask_symbol.ensures.later
    (λ o. asks_then files now old mid (λ known. AsksSymbol old (asked_symbol object) known (Ok mid)) (AsksValues mid values) (AsksComponent old object) (with_view (λ _. new) o) first c.in_ok-ask_symbol.ensures.files (λ known. component_then old mid object values known (with_view (λ _. new) o) is))
    c.ask_values.ensures.read
