use Rattle.std.proofs.Common.{take}
use Rattle.std.specs.List.{list_any}
use Rattle.hierarchy.specs.SheetTable.{sheet_names}
use Rattle.hierarchy.specs.steps.Widening.{IsMarked}
use Rattle.hierarchy.proofs.widening.mark_sheets.Given as goal

abbrev pub invariant-loop-sheet : goal.invariant-loop-sheet
invariant-loop-sheet l = IsMarked l.fn.named l.named (λ place. list_any (sheet_names place) (take l.sheet-index l.sheets))
