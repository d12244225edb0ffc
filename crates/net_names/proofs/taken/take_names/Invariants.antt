use Rattle.std.proofs.Common.{◌≡◌, drop, fold, map}
use Rattle.net_names.specs.steps.Numbering.{with_taken}
use Rattle.net_names.proofs.taken.take_names.Given as goal

abbrev pub invariant-loop-at : goal.invariant-loop-at
invariant-loop-at l = fold (with_taken l.prefix) l.taken.keys (map (λ n. n.0) (drop l.at l.names)) ≡ fold (with_taken l.prefix) l.fn.taken.keys (map (λ n. n.0) l.names)
