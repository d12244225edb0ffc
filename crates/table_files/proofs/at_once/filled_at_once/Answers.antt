use Rattle.std.proofs.Common.{◌≡◌, ◌<◌, ℕ, List, Bor, Ok, length, map, rules, sym, ap, ap₂, subst, ◌∙◌}
use Rattle.std.specs.FinMap.{entries, get}
use Rattle.geda_model.specs.Sheets.{ObjectData}
use Rattle.edit_rules.specs.Histories.{project}
use Rattle.project_model.specs.Projects.{ProjectData}
use Rattle.project_model.specs.Tables.{row_now}
use Rattle.project_model.specs.declared.change.Placed.{Placed}
use Rattle.renum_files.specs.RenumberedFiles.{File}
use Rattle.table_files.specs.steps.Objects.{Row, files_of, object_of, objects_now, with_components}
use Rattle.table_files.specs.steps.Room.{HaveRoom}
use Rattle.table_files.proofs.AtOnceLemmas.{at_once}
use Rattle.table_files.proofs.at_once.filled_at_once.Goals as goal

pub returns : goal.returns
returns c =
    let h = c.args.desk.now.history in
    let sheet = c.args.sheet.now in
    let cs = c.args.components.now in
    let p = c.project-project.ensures.contents in
    let rows : map row_now c.in_ok-rows.rows.items ≡ entries (project h).objects = c.in_ok-rows.ensures.objects ∙ ap (λ (q : ProjectData). entries q.objects) p in
    let told : HaveRoom h sheet (map row_now c.in_ok-rows.rows.items) cs = search rules in
    let room : HaveRoom h sheet (entries (project h).objects) cs = subst (λ (rs : List Row). HaveRoom h sheet rs cs) rows told in
    let some : 0 < length cs = search rules in
    let lent : c.as_slice-2.result.now ≡ c.in_ok-rows.rows.items = search rules in
    let made : objects_now c.in_ok-objects.objects.items ≡ map object_of (entries (project h).objects) =
    c.in_ok-objects.ensures ∙ ap (λ (rs : List (ℕ × Bor Placed)). map object_of (map row_now rs)) lent ∙ ap (map object_of) rows in
    let shown : c.as_slice-3.result.now ≡ c.put_components.new.objects.items = search rules in
    let objects : objects_now c.as_slice-3.result.now ≡ with_components (map object_of (entries (project h).objects)) cs =
    ap objects_now shown ∙ c.put_components.ensures ∙ ap (λ (os : List ObjectData). with_components os cs) made in
    let files : c.in_ok-files.files.items ≡ files_of sheet (get (project h).sheets sheet) (with_components (map object_of (entries (project h).objects)) cs) =
    c.in_ok-files.ensures ∙ ap₂ (files_of sheet) (c.head.ensures.found ∙ ap (λ (q : ProjectData). get q.sheets sheet) p) objects in
    at_once h sheet cs c.requires room some ∙ ap (λ (fs : List File). Ok (record { count = length cs; files = fs })) (sym files)
