-- The file of a sheet by the objects of its project.
use Rattle.std.proofs.Common.{◌≡◌, ℕ, true, List, [], ◌∷◌, ◌++◌, map, filter, filter_map, Option, None, Some, refl, sym, ap, ◌∙◌}
use Rattle.std.specs.FinMap.{entries, get}
use Rattle.std.specs.List.{flat_map}
use Rattle.std.proofs.lemmas.Bool.{and_parts}
use Rattle.std.proofs.lemmas.Grind.{flat_map-append}
use Rattle.geda_defs.specs.Lines.{ended}
use Rattle.geda_grammar.specs.Canonical.{head_text, object_rows, object_text, row_lines, rows_text}
use Rattle.geda_grammar.specs.declared.row.Row as lines
use Rattle.geda_model.specs.Sheets.{HeadData, ObjectData}
use Rattle.project_model.specs.Projects.{ProjectData, is_on}
use Rattle.renum_files.specs.RenumberedFiles.{renumbered_sheet_file}
use Rattle.table_files.specs.steps.Objects.{Row, all_on, files_of, object_of}

rows_append : (rows others : List lines.Row) → rows_text (rows ++ others) ≡ rows_text rows ++ rows_text others
rows_append rows others = ap (flat_map ended) (flat_map-append row_lines rows others) ∙ flat_map-append ended (flat_map row_lines rows) (flat_map row_lines others)

-- the texts of objects, one after the other
texts_of : (objects : List ObjectData) → flat_map object_text objects ≡ rows_text (flat_map object_rows objects)
texts_of [] = refl
texts_of (o ∷ objects) = ap (λ (bs : List ℕ). object_text o ++ bs) (texts_of objects) ∙ sym (rows_append (object_rows o) (flat_map object_rows objects))

-- where all stand in the sheet, none is left out
all_kept : (sheet : List ℕ) (rows : List Row) → all_on sheet rows ≡ true → filter (is_on sheet) rows ≡ rows
all_kept sheet [] home = refl
all_kept sheet (row ∷ rows) home =
    let parts = and_parts (is_on sheet row) (all_on sheet rows) home in
    rw parts.0 (ap (λ (rs : List Row). row ∷ rs) (all_kept sheet rows parts.1))

pub file_of : (p : ProjectData) (sheet : List ℕ) → all_on sheet (entries p.objects) ≡ true
    → filter_map (renumbered_sheet_file p) (sheet ∷ []) ≡ files_of sheet (get p.sheets sheet) (map object_of (entries p.objects))
file_of p sheet home = by (get p.sheets sheet) refl
  where
    by : (head : Option HeadData) → get p.sheets sheet ≡ head → filter_map (renumbered_sheet_file p) (sheet ∷ []) ≡ files_of sheet head (map object_of (entries p.objects))
    by None is = rw is refl
    by (Some head) is =
        rw is
        (ap (λ (bs : List ℕ). (sheet, head_text head ++ bs) ∷ [])
        (ap (λ (rows : List Row). rows_text (flat_map object_rows (map object_of rows))) (all_kept sheet (entries p.objects) home) ∙ sym (texts_of (map object_of (entries p.objects)))))
