use Rattle.std.proofs.Common.{drop}
use Rattle.std.specs.List.{AllByRecursion}
use Rattle.table_files.specs.steps.Room.{IsInItsRanges}
use Rattle.table_files.proofs.objects.tell_ranges.Given as goal

abbrev pub invariant-loop-component : goal.invariant-loop-component
invariant-loop-component l = AllByRecursion IsInItsRanges (drop l.component-index l.components) → AllByRecursion IsInItsRanges l.components
