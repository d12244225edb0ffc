use Rattle.std.proofs.Common.{◌≡◌, ◌∙◌, ◌+◌, ◌++◌, ◌∷◌, List, true, false, ap, sym, filter, arith, rules}
use Rattle.std.proofs.lemmas.List.{length-map}
use Rattle.csv.specs.Records.{fields_of}
use Rattle.attr_table.specs.Cells.{Cell, cells_of, cell_counts, is_bad_cell}
use Rattle.attr_table.specs.TableFaults.{first_column}
use Rattle.attr_table.specs.steps.LentTexts.{texts}
use Rattle.attr_table.proofs.CountingLemmas.{cells_from, column_next, counts_next, next_cell}
use Rattle.attr_table.proofs.CellLemmas.{not_there}
use Rattle.attr_table.proofs.cells.counting.Goals as goal

pub loop-place-preserved : goal.loop-place-preserved
loop-place-preserved c =
    let o = c.args.object.now in
    let i = c.loop-place.place in
    let names = texts c.args.names.now in
    let fields = fields_of c.args.source.now in
    let rest = cells_from (i + 1) names fields in
    let count = length-map c.args.names.now (λ t. t.now) in
    let test = c.loop-place-test.true in
    let width = c.requires.width in
    let cell : Cell = c.cell_at-cell.result in
    let step : cells_from i names fields ≡ cell ∷ rest =
    next_cell i names fields (omega (arith, test, count)) (omega (arith, width, count)) ∙ ap (λ (one : Cell). one ∷ rest) (sym c.cell_at-cell.ensures) in
    let is : c.in_ok-put_counting.field-0 ≡ true = search rules in
    let good : is_bad_cell o cell ≡ false = not_there (is_bad_cell o cell) (sym is ∙ c.in_ok-put_counting.ensures.good) in (
      counts_next (cell_counts o) c.loop-place.counting.items c.put_counting.new.counting.items cell rest (cells_of names fields) (c.in_ok-put_counting.ensures.cells is)
          (ap (λ (cells : List Cell). c.loop-place.counting.items ++ filter (cell_counts o) cells) (sym step) ∙ c.loop-place.invariant.0),
      column_next (is_bad_cell o) i cell rest good ∙ ap (first_column (is_bad_cell o) (i + 2)) (sym step) ∙ c.loop-place.invariant.1,
    )
