use Rattle.std.proofs.Common.{drop}
use Rattle.std.specs.List.{AllByRecursion}
use Rattle.desk_entries.specs.steps.RoomForEntries.{IsFileText}
use Rattle.table_files.proofs.objects.are_short.Given as goal

abbrev pub invariant-loop-component : goal.invariant-loop-component
invariant-loop-component l = AllByRecursion IsFileText (drop l.component-index l.components) → AllByRecursion IsFileText l.components
