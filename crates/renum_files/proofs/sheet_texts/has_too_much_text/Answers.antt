use Rattle.std.proofs.Common.{◌≡◌, ℕ, ◌+◌, ◌-◌, ◌^◌, List, min, ap, ◌∙◌, arith}
use Rattle.std.specs.FinMap.{entries, values}
use Rattle.std.specs.List.{sum_by}
use Rattle.project_files.specs.Measures.{symbols_text}
use Rattle.project_files.proofs.TextLemmas.{both_sums, past_limit}
use Rattle.project_model.specs.declared.change.Placed.{Placed}
use Rattle.renum_files.specs.RenumberedFiles.{placed_bytes}
use Rattle.renum_files.specs.steps.Rows.{row_bytes}
use Rattle.renum_files.proofs.RowLemmas.{sum_of_rows}
use Rattle.renum_files.proofs.sheet_texts.has_too_much_text.Goals as goal

pub returns : goal.returns
returns c =
    let p = c.args.project.now.contents in
    let objects = sum_by placed_bytes (values p.objects) in
    let symbols = symbols_text p in
    let same : c.bytes_of_objects.result ≡ min objects (2 ^ 64 - 1) =
    c.bytes_of_objects.ensures ∙ ap (λ (rows : List (ℕ × Placed)). min (sum_by row_bytes rows) (2 ^ 64 - 1)) c.requires.objects ∙ ap (λ (n : ℕ). min n (2 ^ 64 - 1)) (sum_of_rows (entries p.objects)) in
    past_limit 67108864 c.saturating_add.result (objects + symbols) (omega arith)
    (both_sums c.bytes_of_objects.result c.args.symbol_bytes c.saturating_add.result objects symbols same c.requires.symbols c.saturating_add.ensures)
