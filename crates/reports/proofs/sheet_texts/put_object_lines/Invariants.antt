use Rattle.std.proofs.Common.{◌≡◌, ◌++◌, drop, map}
use Rattle.std.specs.List.{flat_map}
use Rattle.project_model.specs.Tables.{row_now}
use Rattle.reports.specs.SheetTexts.{object_line}
use Rattle.reports.proofs.sheet_texts.put_object_lines.Given as goal

abbrev pub invariant-loop-row : goal.invariant-loop-row
invariant-loop-row l =
    l.text.items ++ flat_map object_line (map row_now (drop l.row-index l.rows)) ≡ l.fn.text.items ++ flat_map object_line (map row_now l.rows)
