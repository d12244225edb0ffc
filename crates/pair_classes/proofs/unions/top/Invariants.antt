use Rattle.std.proofs.Common.{◌<◌, length}
use Rattle.pair_classes.specs.steps.Unions.{IsForest, LeadsUp, AreAbove, KeepsLabels}
use Rattle.pair_classes.proofs.unions.top.Given as goal

abbrev pub invariant-loop-parents : goal.invariant-loop-parents
invariant-loop-parents l = record {
  within : l.at < length l.parents;
  forest : IsForest l.parents;
  leads : LeadsUp l.fn.parents l.place l.at;
  above : AreAbove l.fn.parents l.parents;
  same : KeepsLabels l.fn.parents l.parents;
}

abbrev pub decreases-loop-parents : goal.decreases-loop-parents
decreases-loop-parents l = l.at
