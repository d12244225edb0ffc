-- The text of objects, by the texts of each.
use Rattle.std.proofs.Common.{◌≡◌, ℕ, List, [], ◌∷◌, ◌++◌, refl, sym, ap, ◌∙◌, map}
use Rattle.std.proofs.lemmas.Grind.{flat_map-append}
use Rattle.std.specs.List.{flat_map}
use Rattle.geda_defs.specs.Lines.{ended}
use Rattle.project_model.specs.declared.change.Placed.{Placed}
use Rattle.geda_grammar.specs.declared.row.Row.{Row}
use Rattle.geda_grammar.specs.Canonical.{object_rows, row_lines, rows_text}
use Rattle.reports.specs.steps.Rows.{row_text}

rows_append : (rows others : List Row) → rows_text (rows ++ others) ≡ rows_text rows ++ rows_text others
rows_append rows others = ap (flat_map ended) (flat_map-append row_lines rows others) ∙ flat_map-append ended (flat_map row_lines rows) (flat_map row_lines others)

-- the text of the rows of objects is their texts
pub texts_of : (rows : List (ℕ × Placed)) → flat_map row_text rows ≡ rows_text (flat_map object_rows (map (λ (row : ℕ × Placed). row.1.object) rows))
texts_of [] = refl
texts_of (row ∷ rows) =
    ap (λ (bs : List ℕ). row_text row ++ bs) (texts_of rows)
    ∙ sym (rows_append (object_rows row.1.object) (flat_map object_rows (map (λ (row : ℕ × Placed). row.1.object) rows)))
