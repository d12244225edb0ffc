use Rattle.std.proofs.Common.{◌≡◌, ℕ, List, map, drop, ap, arith}
use Rattle.std.proofs.lemmas.List.{drop_all}
use Rattle.std.specs.Borrow.{Bor}
use Rattle.std.specs.List.{sum_by}
use Rattle.project_model.specs.Tables.{row_now}
use Rattle.project_model.specs.declared.change.Placed.{Placed}
use Rattle.renum_files.specs.steps.Rows.{row_bytes}
use Rattle.renum_files.proofs.sheet_texts.bytes_of_objects.Goals as goal

pub returns : goal.returns
returns c =
    let inv = c.loop-row.invariant in
    let none : sum_by row_bytes (map row_now (drop c.loop-row.row-index c.args.rows.now)) ≡ 0 = ap (λ (rows : List (ℕ × Bor Placed)). sum_by row_bytes (map row_now rows)) (drop_all c.loop-row.row-index c.args.rows.now c.loop-row-test.false) in
    omega (arith, inv.fits, inv.rest, none)
