use Rattle.std.proofs.Common.{take}
use Rattle.std.specs.List.{list_any}
use Rattle.hierarchy.specs.SheetTable.{is_place}
use Rattle.hierarchy.specs.steps.Widening.{IsMarked}
use Rattle.hierarchy.proofs.widening.mark_component.Given as goal

abbrev pub invariant-loop-source : goal.invariant-loop-source
invariant-loop-source l = IsMarked l.fn.named l.named (λ place. list_any (λ s. is_place place s.sheet) (take l.source-index l.source-items))
