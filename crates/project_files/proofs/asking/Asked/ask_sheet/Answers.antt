use Rattle.std.proofs.Common.{◌≡◌, ℕ, List, [], ◌∷◌, ◌++◌, Some, None, Ok, false, sym, ap, subst, ◌∙◌}
use Rattle.project_files.specs.steps.Progress.{AskedData, Leads, SheetFileData, is_in}
use Rattle.project_files.specs.steps.Asking.{AsksValues}
use Rattle.project_files.proofs.AskingLemmas.{absent_leads, and_absent, and_sheet, found_in, pushed_key, sheet_leads}
use Rattle.project_files.proofs.Reading.{bytes_in}
use Rattle.project_files.proofs.asking.Asked.ask_sheet.Goals.{in-None+in_ok-insert-in-None, in-Some+in_ok-copy-in-Some+in_ok-push_back-in-Some+in_ok-insert-in-Some}
use Rattle.project_files.proofs.asking.Asked.ask_sheet.Goals as goal

pub returns-clause-read : goal.returns-clause-read
returns-clause-read g c =
    let old : AskedData = c.args.self.now in
    let files = g.F.Folder.files c.args.folder.now in
    let name = c.args.name in
    let start : AskedData = record { queue = c.self.inside.queue.keys; waiting = c.self.inside.waiting.items; absent = c.self.inside.absent.keys; symbols = c.self.inside.symbols.entries } in
    let is : start ≡ old = c.self.view_is in
    elim c.match-branch-2.branch [
      | in-None+in_ok-insert-in-None w ↦
          let out : is_in name start.absent ≡ false = ap (λ (a : AskedData). is_in name a.absent) is ∙ c.requires.absent in
          let keys : w.insert.new.self.keys ≡ start.absent ++ name ∷ [] = w.in_ok-insert-in-None.ensures.keys ∙ pushed_key start.absent name out in
          let made : and_absent old name ≡ c.match-branch-2.self =
          ap (λ (a : AskedData). and_absent a name) (sym is)
          ∙ ap (λ (names : List (List ℕ)). record { queue = start.queue; waiting = start.waiting; absent = names; symbols = start.symbols }) (sym keys)
          ∙ sym w.self-is in
          subst (λ (a : AskedData). Leads files old a (λ known. AsksValues old (name ∷ []) known (Ok a))) made
          (absent_leads files old name c.requires.name c.requires.queue c.requires.absent
          (found_in files name c.as_str.result.now bytes_in None c.read.result c.as_str.ensures.text (c.in_ok-read.was ∙ ap Ok w.in-None.is) c.read.ensures.file))
      | in-Some+in_ok-copy-in-Some+in_ok-push_back-in-Some+in_ok-insert-in-Some w ↦
          let bytes = w.in-Some.bytes.items in
          let out : is_in name start.queue ≡ false = ap (λ (a : AskedData). is_in name a.queue) is ∙ c.requires.queue in
          let keys : w.insert-in-Some.new.self.keys ≡ start.queue ++ name ∷ [] = w.in_ok-insert-in-Some.ensures.keys ∙ pushed_key start.queue name out in
          let sheet : SheetFileData = record { name = name; bytes = bytes } in
          let items : w.push_back.new.self.items ≡ start.waiting ++ sheet ∷ [] =
          w.in_ok-push_back-in-Some.ensures.items ∙ ap (λ (n : List ℕ). start.waiting ++ record { name = n; bytes = bytes } ∷ []) w.in_ok-copy-in-Some.ensures.cases in
          let made : and_sheet old name bytes ≡ c.match-branch-2.self =
          ap (λ (a : AskedData). and_sheet a name bytes) (sym is)
          ∙ ap (λ (names : List (List ℕ)). record { queue = names; waiting = start.waiting ++ sheet ∷ []; absent = start.absent; symbols = start.symbols }) (sym keys)
          ∙ ap (λ (sheets : List SheetFileData). record { queue = w.insert-in-Some.new.self.keys; waiting = sheets; absent = start.absent; symbols = start.symbols }) (sym items)
          ∙ sym w.self-is in
          subst (λ (a : AskedData). Leads files old a (λ known. AsksValues old (name ∷ []) known (Ok a))) made
          (sheet_leads files old name c.requires.name c.requires.queue c.requires.absent bytes
          (found_in files name c.as_str.result.now bytes_in (Some w.in-Some.bytes) c.read.result c.as_str.ensures.text (c.in_ok-read.was ∙ ap Ok w.in-Some.is) c.read.ensures.file))
    ]
