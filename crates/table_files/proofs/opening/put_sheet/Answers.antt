use Rattle.std.proofs.Common.{◌≡◌, List, [], ◌∷◌, ◌++◌, ap, ◌∙◌}
use Rattle.edit_entries.specs.Entries.{EntryData}
use Rattle.table_files.specs.OpenedFiles.{add_sheet}
use Rattle.table_files.proofs.OpeningLemmas.{as_put}
use Rattle.table_files.proofs.opening.put_sheet.Goals as goal

pub returns : goal.returns
returns c =
    let sheet = c.args.sheet.now in
    let text = c.args.text.now in
    let one : c.push.new.self.items ≡ add_sheet sheet text ∷ [] =
    c.in_ok-push.ensures.items ∙ ap (λ (es : List EntryData). es ++ c.in_ok-entry.entry ∷ []) c.new-entries.ensures.items
    ∙ ap (λ (e : EntryData). e ∷ []) c.in_ok-entry.ensures in
    as_put c.args.desk.now.history c.push.new.self.items sheet text (c.put_all.new.desk.history, c.in_ok-fault.fault) one c.in_ok-fault.ensures
