use Rattle.std.proofs.Common.{◌≡◌, ℕ, ◌∷◌, List, length, sym, ap, ap₂, ◌∙◌, arith}
use Rattle.std.specs.List.{sum_by}
use Rattle.std.specs.Vec.Iter.{into_iter_items}
use Rattle.std.proofs.lemmas.List.Sums.{sum_by-cons}
use Rattle.geda_model.specs.Sheets.{SheetData}
use Rattle.project_model.specs.Changes.{put}
use Rattle.project_files.specs.Opening.{sheets_items}
use Rattle.project_files.specs.steps.Counting.{object_count}
use Rattle.project_files.proofs.OpeningLemmas.{next_sheet}
use Rattle.project_files.proofs.opening.put_sheets.Goals as goal

pub loop-name-preserved : goal.loop-name-preserved
loop-name-preserved c =
    let name = c.in-Some.name in
    let sheet : SheetData = c.in-Some-next.sheet in
    let names : List (List ℕ) = into_iter_items c.next.new.self in
    let sheets : List SheetData = into_iter_items c.next-in-loop-name.new.self in
    let before = c.loop-name.invariant in
    let name_left : into_iter_items c.loop-name.name-iterator ≡ name ∷ names = c.in-Some.ensures.steps.0 in
    let sheet_left : into_iter_items c.loop-name.sheets ≡ sheet ∷ sheets = c.in-Some-next.ensures.cases.0 in
    let count = ap length name_left in
    let objects = ap (sum_by object_count) sheet_left ∙ sum_by-cons object_count sheet sheets in
    let next = c.in_ok-id.ensures in
    record {
      rest = next_sheet c.loop-name.project.contents c.put_sheet.new.project.contents c.loop-name.id c.in_ok-id.id name names sheet sheets next.contents next.next
          ∙ sym (ap₂ (λ (ns : List (List ℕ)) (ss : List SheetData). put c.loop-name.project.contents (sheets_items c.loop-name.id ns ss)) name_left sheet_left)
          ∙ before.rest;
      few = omega (arith, objects, before.few, next.next);
      things = omega (arith, count, objects, before.things, next.things);
      names = omega (arith, count, before.names, next.names);
    }
