use Rattle.std.proofs.Common.{◌≡◌, drop}
use Rattle.table_files.specs.steps.Objects.{have_keys}
use Rattle.table_files.proofs.objects.have_keys.Given as goal

abbrev pub invariant-loop-component : goal.invariant-loop-component
invariant-loop-component l = have_keys l.rows (drop l.component-index l.components) ≡ have_keys l.rows l.components
