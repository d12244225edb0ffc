use Rattle.std.proofs.Common.{◌≡◌, ◌++◌, drop}
use Rattle.std.specs.List.{filter_map}
use Rattle.component_checks.specs.steps.CheckedObjects.{checked_at}
use Rattle.component_checks.specs.steps.SoundSymbols.{AreSound}
use Rattle.component_checks.proofs.project.components_among.Given as goal

abbrev pub invariant-loop-occurrence : goal.invariant-loop-occurrence
invariant-loop-occurrence l = record {
  found :
      l.components.items ++ filter_map (checked_at l.objects) (drop l.occurrence-index l.occurrences)
      ≡ filter_map (checked_at l.objects) l.occurrences;
  same : l.tables ≡ l.objects;
  sound : AreSound l.objects l.sound;
}
