use Rattle.std.proofs.Common.{take}
use Rattle.std.specs.List.{list_any}
use Rattle.hierarchy.specs.SheetTable.{component_names}
use Rattle.hierarchy.specs.steps.Widening.{IsMarked}
use Rattle.hierarchy.proofs.widening.mark_sheet.Given as goal

abbrev pub invariant-loop-component : goal.invariant-loop-component
invariant-loop-component l = IsMarked l.fn.named l.named (λ place. list_any (component_names place) (take l.component-index l.component-items))
