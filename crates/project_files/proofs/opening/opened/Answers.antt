use Rattle.std.proofs.Common.{length, sym, arith}
use Rattle.std.proofs.lemmas.Bool.{ltb-false}
use Rattle.std.proofs.lemmas.List.Concat.{length-flat_map}
use Rattle.geda_model.specs.Sheets.{SheetData}
use Rattle.project_files.specs.Opening.{all_objects, most_project_objects}
use Rattle.project_files.proofs.TextLemmas.{few_parts}
use Rattle.project_files.proofs.opening.opened.Goals as goal

pub project_from-requires-clause-objects : goal.project_from-requires-clause-objects
project_from-requires-clause-objects c =
    let g = c.args.gathered in
    let few = ltb-false most_project_objects (length (all_objects g)) (sym c.if-has_too_many_objects.ensures) in
    let count = length-flat_map (λ (sheet : SheetData). sheet.objects) g.sheets in
    omega (arith, few, count)

pub project_from-requires-clause-sheets : goal.project_from-requires-clause-sheets
project_from-requires-clause-sheets c =
    let few = (few_parts c.args.gathered (sym c.if-is_over_full.ensures)).0 in
    omega (arith, few, c.requires.sheets)

pub project_from-requires-clause-symbols : goal.project_from-requires-clause-symbols
project_from-requires-clause-symbols c = (few_parts c.args.gathered (sym c.if-is_over_full.ensures)).1
