use Rattle.std.proofs.Common.{◌≡◌, replicate}
use Rattle.net_names.specs.steps.Gathering.{empty_class}
use Rattle.net_names.proofs.gathering.empty_classes.Given as goal

abbrev pub invariant-loop-place : goal.invariant-loop-place
invariant-loop-place l = l.growing.items ≡ replicate l._place empty_class
