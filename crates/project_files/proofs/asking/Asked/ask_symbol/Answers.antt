use Rattle.std.proofs.Common.{◌≡◌, ℕ, List, [], ◌∷◌, ◌++◌, Option, Some, Ok, Err, true, false, is_some, sym, ap, subst, ◌∙◌, arith}
use Rattle.std.proofs.lemmas.Result.{err_from_is_err_and}
use Rattle.std.specs.Str.{bytes_eq}
use Rattle.std.specs.Map.{lookup}
use Rattle.indexmap.specs.IndexMap.{insert_entry}
use Rattle.indexmap.proofs.CallerLemmas.{insert_entry-new}
use Rattle.project_files.specs.Gathering.{AskedSymbol}
use Rattle.project_files.specs.steps.Reading.{SymbolFrom}
use Rattle.project_files.specs.steps.Progress.{AskedData, Asks, Leads, LeadsOut, is_asked_symbol}
use Rattle.project_files.specs.steps.Asking.{AsksSymbol}
use Rattle.project_files.proofs.Passing.{fault_later}
use Rattle.project_files.proofs.AskingLemmas.{and_symbol, is_none, leads_self, lookup_asked, symbol_fault, symbol_known, symbol_leads}
use Rattle.project_files.proofs.asking.Asked.ask_symbol.Goals as goal

pub returns-then-contains_key-clause-read : goal.returns-then-contains_key-clause-read
returns-then-contains_key-clause-read g c =
    let old : AskedData = c.args.self.now in
    let files = g.F.Folder.files c.args.folder.now in
    let name = c.in-Some.name in
    let asked : is_asked_symbol name old.symbols ≡ true = ap (λ (a : AskedData). is_asked_symbol name a.symbols) (sym c.self.view_is) ∙ sym (lookup_asked name c.self.inside.symbols.entries) ∙ sym c.contains_key.ensures ∙ c.if-contains_key.true in
    subst (λ (n : Option (List ℕ)). Leads files old old (λ known. AsksSymbol old n known (Ok old))) (sym c.in-Some.is)
    (leads_self files old (λ known. AsksSymbol old (Some name) known (Ok old)) (symbol_known old name asked))

pub returns-in_err-symbol-clause-read : goal.returns-in_err-symbol-clause-read
returns-in_err-symbol-clause-read g c =
    let p = err_from_is_err_and c.from_residual.result c.from_residual.ensures.1 in
    let old : AskedData = c.args.self.now in
    let files = g.F.Folder.files c.args.folder.now in
    let name = c.in-Some.name in
    let before = g.F.Folder.faults c.args.folder.now in
    let fault = c.in_err-symbol.field-0.0 in
    let fresh : is_asked_symbol name old.symbols ≡ false = ap (λ (a : AskedData). is_asked_symbol name a.symbols) (sym c.self.view_is) ∙ sym (lookup_asked name c.self.inside.symbols.entries) ∙ sym c.contains_key.ensures ∙ c.if-contains_key.false in
    rw (p.1, p.2) (fault_later before before _ (SymbolFrom files name) (Asks files old (AsksSymbol old c.args.name.now)) fault (omega arith)
    (λ s. subst (λ (n : Option (List ℕ)). LeadsOut files old (λ known. AsksSymbol old n known (Err fault))) (sym c.in-Some.is) (symbol_fault files old name fresh fault s))
    c.in_err-symbol.ensures.read)

pub returns-clause-read : goal.returns-clause-read
returns-clause-read g c =
    let old : AskedData = c.args.self.now in
    let files = g.F.Folder.files c.args.folder.now in
    let name = c.in-Some.name in
    let symbol = c.in_ok-symbol.symbol in
    let same : c.in_ok-clone.field-0 ≡ name = c.in_ok-clone.ensures.cases in
    let out : is_some (lookup (bytes_eq name) c.self.inside.symbols.entries) ≡ false = sym c.contains_key.ensures ∙ c.if-contains_key.false in
    let fresh : is_asked_symbol name old.symbols ≡ false = ap (λ (a : AskedData). is_asked_symbol name a.symbols) (sym c.self.view_is) ∙ sym (lookup_asked name c.self.inside.symbols.entries) ∙ out in
    let entries : c.insert.new.self.entries ≡ c.self.inside.symbols.entries ++ (name, symbol) ∷ [] =
    subst (λ (n : List ℕ). c.insert.new.self.entries ≡ insert_entry bytes_eq c.self.inside.symbols.entries n symbol) same c.in_ok-insert.ensures.entries
    ∙ insert_entry-new bytes_eq c.self.inside.symbols name symbol (is_none _ out) in
    let now : AskedData = record { queue = c.self.inside.queue.keys; waiting = c.self.inside.waiting.items; absent = c.self.inside.absent.keys; symbols = c.insert.new.self.entries } in
    let made : and_symbol old name symbol ≡ now =
    ap (λ (a : AskedData). and_symbol a name symbol) (sym c.self.view_is)
    ∙ ap (λ (es : List AskedSymbol). record { queue = c.self.inside.queue.keys; waiting = c.self.inside.waiting.items; absent = c.self.inside.absent.keys; symbols = es }) (sym entries) in
    rw c.in-Some.is (subst (λ (a : AskedData). Leads files old a (λ known. AsksSymbol old (Some name) known (Ok a))) made
    (symbol_leads files old name fresh symbol c.in_ok-symbol.ensures.read))
