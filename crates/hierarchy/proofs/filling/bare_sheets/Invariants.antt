use Rattle.std.proofs.Common.{◌≡◌, map, take}
use Rattle.hierarchy.specs.steps.SheetRows.{bare_sheet}
use Rattle.hierarchy.proofs.filling.bare_sheets.Given as goal

abbrev pub invariant-loop-name : goal.invariant-loop-name
invariant-loop-name l = l.table.items ≡ map bare_sheet (take l.name-index l.names)
