use Rattle.std.proofs.Common.{◌≡◌, [], Some, rules}
use Rattle.edit_desk.specs.Desks.{DeskView}
use Rattle.table_files.specs.OpenedFiles.{put_sheet}
use Rattle.table_files.proofs.OpeningLemmas.{not_opened, opened}
use Rattle.table_files.proofs.opening.opened_text.Goals as goal

pub returns-in-Ok-None : goal.returns-in-Ok-None
returns-in-Ok-None c = opened c.args.sheet.now c.args.text.now c.put_sheet.new.desk.history (search rules)

pub returns-in-Ok-Some : goal.returns-in-Ok-Some
returns-in-Ok-Some c =
    let sheet = c.args.sheet.now in
    let text = c.args.text.now in
    let h = c.put_sheet.new.desk.history in
    let fault = c.in-Ok-Some.fault in
    let put : (h, Some fault) ≡ put_sheet [] sheet text = search rules in
    not_opened (λ (desk : DeskView). desk.history) sheet text h fault c.refused_text.result put c.refused_text.ensures
