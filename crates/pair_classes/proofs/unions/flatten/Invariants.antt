use Rattle.std.proofs.Common.{◌≡◌, ℕ, ◌<◌, ◌≤◌, get_or}
use Rattle.pair_classes.specs.steps.Unions.{IsForest, AreAbove}
use Rattle.pair_classes.proofs.unions.flatten.Given as goal

abbrev pub invariant-loop-place : goal.invariant-loop-place
invariant-loop-place l = record {
  forest : IsForest l.parents;
  above : AreAbove l.fn.parents l.parents;
  done : (k : ℕ) → k < l.place → get_or l.parents k 0 ≡ get_or l.parents (get_or l.fn.parents k 0) 0;
  ahead : (k : ℕ) → l.place ≤ k → get_or l.parents k 0 ≡ get_or l.fn.parents k 0;
}
