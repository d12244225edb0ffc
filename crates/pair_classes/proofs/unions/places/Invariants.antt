use Rattle.std.proofs.Common.{◌≡◌, length}
use Rattle.pair_classes.specs.steps.Unions.{StandAtThemselves}
use Rattle.pair_classes.proofs.unions.places.Given as goal

abbrev pub invariant-loop-place : goal.invariant-loop-place
invariant-loop-place l = (length l.places.items ≡ l.place) × StandAtThemselves l.places.items
