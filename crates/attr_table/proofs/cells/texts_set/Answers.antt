use Rattle.std.proofs.Common.{◌+◌, drop}
use Rattle.std.specs.List.{list_all}
use Rattle.std.proofs.lemmas.Bool.{and_parts}
use Rattle.std.proofs.lemmas.List.{drop_more}
use Rattle.attr_table.specs.Cells.{can_be_set}
use Rattle.attr_table.proofs.cells.texts_set.Goals as goal

pub set_cell-requires-clause-good : goal.set_cell-requires-clause-good
set_cell-requires-clause-good c =
    let i = c.loop-cell.cell-index in
    let cells = c.args.cells.now in
    let item = c.cell-item.result in
    let good = rw (drop_more cells i item c.loop-cell-test.true, ← c.cell-item.is) at c.loop-cell.invariant.2 in
    (and_parts (can_be_set item) (list_all can_be_set (drop (i + 1) cells)) good).0

pub loop-cell-preserved : goal.loop-cell-preserved
loop-cell-preserved c =
    let i = c.loop-cell.cell-index in
    let cells = c.args.cells.now in
    let item = c.cell-item.result in
    let good = rw (drop_more cells i item c.loop-cell-test.true, ← c.cell-item.is) at c.loop-cell.invariant.2 in
    let kept = rw (drop_more cells i item c.loop-cell-test.true, ← c.cell-item.is) at c.loop-cell.invariant.0 in (
      rw c.in_ok-set_cell.ensures.texts kept,
      c.in_ok-set_cell.ensures.places,
      (and_parts (can_be_set item) (list_all can_be_set (drop (i + 1) cells)) good).1,
    )
