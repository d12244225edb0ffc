use Rattle.std.proofs.Common.{◌≡◌, drop}
use Rattle.table_files.specs.steps.Objects.{objects_now, with_components}
use Rattle.table_files.proofs.objects.put_components.Given as goal

abbrev pub invariant-loop-component : goal.invariant-loop-component
invariant-loop-component l =
    with_components (objects_now l.objects.items) (drop l.component-index l.components) ≡ with_components (objects_now l.fn.objects.items) l.components
