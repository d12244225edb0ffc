use Rattle.std.proofs.Common.{◌≡◌, length, take}
use Rattle.pair_classes.specs.steps.Unions.{AddsUnions, IsForest}
use Rattle.pair_classes.proofs.unions.unite_pairs.Given as goal

abbrev pub invariant-loop-at : goal.invariant-loop-at
invariant-loop-at l = record {
  len : length l.parents ≡ length l.fn.parents;
  forest : IsForest l.parents;
  adds : AddsUnions (take l.at l.pairs) l.fn.parents l.parents;
}
