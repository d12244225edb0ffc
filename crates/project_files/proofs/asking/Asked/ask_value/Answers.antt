use Rattle.std.proofs.Common.{ℕ, List, [], ◌∷◌, sym, subst, ◌∙◌}
use Rattle.outside.specs.Counts.{counts}
use Rattle.project_files.specs.ProjectFiles.{IsFolderAnswer, with_view}
use Rattle.project_files.specs.steps.Progress.{AskedData, Asks}
use Rattle.project_files.specs.steps.Asking.{AsksValues}
use Rattle.project_files.proofs.AskingLemmas.{named_value}
use Rattle.project_files.proofs.asking.Asked.ask_value.Goals as goal

pub returns-clause-read : goal.returns-clause-read
returns-clause-read g c =
    let old : AskedData = c.args.self.now in
    let new : AskedData = c.ask_sheet.new.self in
    let files = g.F.Folder.files c.args.folder.now in
    let value = c.args.value.now in
    let same = named_value value c.in-Some.name (sym c.in-Some.is ∙ c.in_ok-name.ensures) in
    subst (λ (n : List ℕ). IsFolderAnswer (counts (g.F.Folder.faults c.args.folder.now) (g.F.Folder.faults c.ask_sheet.new.folder)) (Asks files old (AsksValues old (n ∷ []))) (with_view (λ _. new) c.ask_sheet.result)) same.0 c.ask_sheet.ensures.read
