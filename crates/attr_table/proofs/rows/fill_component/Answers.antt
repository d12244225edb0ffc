use Rattle.std.proofs.Common.{◌≡◌, ◌∙◌, ◌==◌, List, true, false, Some, filter, fold, length, rules, sym, ap}
use Rattle.std.specs.List.{list_all}
use Rattle.csv.specs.Records.{fields_of}
use Rattle.geda_model.specs.Sheets.{ObjectData}
use Rattle.attr_table.specs.declared.fault.TableFault.TheVariants as faults
use Rattle.attr_table.specs.Cells.{Cell, can_be_set, cells_of, cell_counts, is_bad_cell, set_cell}
use Rattle.attr_table.specs.TableFaults.{first_column, second_column}
use Rattle.attr_table.specs.steps.LentTexts.{texts}
use Rattle.attr_table.proofs.FewLemmas.{map_none}
use Rattle.attr_table.proofs.SettingLemmas.{good_counting, made_none, made_some}
use Rattle.attr_table.proofs.rows.fill_component.Goals as goal

pub returns-then-is_empty : goal.returns-then-is_empty
returns-then-is_empty c =
    let cells = cells_of (texts c.args.names.now) (fields_of c.args.source.now) in
    let empty : (length c.in-Ok.counting.items == 0) ≡ true = search rules in
    (c.in-Ok.ensures.0, sym (made_none cells c.args.id c.args.object.now (ap (λ (cs : List Cell). length cs == 0) (sym c.in-Ok.ensures.1) ∙ empty)))

pub set_cells-requires-clause-good : goal.set_cells-requires-clause-good
set_cells-requires-clause-good c =
    let o = c.args.object.now in
    let cells = cells_of (texts c.args.names.now) (fields_of c.args.source.now) in
    let none = map_none (faults.BadValue c.args.row) (first_column (is_bad_cell o) second_column cells) c.in-Ok.ensures.0 in
    let slice : c.as_slice-in-Ok.result.now ≡ c.in-Ok.counting.items = search rules in
    ap (list_all can_be_set) (slice ∙ c.in-Ok.ensures.1) ∙ good_counting o second_column cells none

pub returns-in_ok-made-in-Ok : goal.returns-in_ok-made-in-Ok
returns-in_ok-made-in-Ok c =
    let o = c.args.object.now in
    let cells = cells_of (texts c.args.names.now) (fields_of c.args.source.now) in
    let some : (length c.in-Ok.counting.items == 0) ≡ false = search rules in
    let slice : c.as_slice-in-Ok.result.now ≡ c.in-Ok.counting.items = search rules in
    let made : c.in_ok-made-in-Ok.made ≡ fold set_cell o (filter (cell_counts o) cells) = c.in_ok-made-in-Ok.ensures ∙ ap (fold set_cell o) (slice ∙ c.in-Ok.ensures.1) in (
      c.in-Ok.ensures.0,
      ap (λ (m : ObjectData). Some (c.args.id, m)) made ∙ sym (made_some cells c.args.id o (ap (λ (cs : List Cell). length cs == 0) (sym c.in-Ok.ensures.1) ∙ some)),
    )
