-- Objects with their ids: the text of a sheet by their texts, and the bytes of all.
use Rattle.std.proofs.Common.{◌≡◌, ℕ, List, [], ◌∷◌, ◌++◌, map, refl, sym, ap, ◌∙◌, arith}
use Rattle.std.proofs.lemmas.Grind.{flat_map-append}
use Rattle.std.proofs.lemmas.List.Sums.{sum_by-cons}
use Rattle.std.specs.List.{flat_map, sum_by}
use Rattle.geda_defs.specs.Lines.{ended}
use Rattle.geda_grammar.specs.Canonical.{object_rows, row_lines, rows_text}
use Rattle.geda_grammar.specs.declared.row.Row.{Row}
use Rattle.project_model.specs.declared.change.Placed.{Placed}
use Rattle.renum_files.specs.RenumberedFiles.{placed_bytes}
use Rattle.renum_files.specs.steps.Rows.{row_bytes, row_text}

rows_append : (rows others : List Row) → rows_text (rows ++ others) ≡ rows_text rows ++ rows_text others
rows_append rows others = ap (flat_map ended) (flat_map-append row_lines rows others) ∙ flat_map-append ended (flat_map row_lines rows) (flat_map row_lines others)

-- the text of the rows of objects is their texts
pub texts_of : (rows : List (ℕ × Placed)) → flat_map row_text rows ≡ rows_text (flat_map object_rows (map (λ (row : ℕ × Placed). row.1.object) rows))
texts_of [] = refl
texts_of (row ∷ rows) =
    ap (λ (bs : List ℕ). row_text row ++ bs) (texts_of rows)
    ∙ sym (rows_append (object_rows row.1.object) (flat_map object_rows (map (λ (row : ℕ × Placed). row.1.object) rows)))

-- the bytes of objects with their ids are those of the objects
pub sum_of_rows : (rows : List (ℕ × Placed)) → sum_by row_bytes rows ≡ sum_by placed_bytes (map (λ (row : ℕ × Placed). row.1) rows)
sum_of_rows [] = refl
sum_of_rows (row ∷ rows) =
    let a = sum_by-cons row_bytes row rows in
    let b = sum_by-cons placed_bytes row.1 (map (λ (row : ℕ × Placed). row.1) rows) in
    let ih = sum_of_rows rows in
    omega (arith, a, b, ih)
