use Rattle.std.proofs.Common.{drop}
use Rattle.rank_order.proofs.MetLemmas.{MeetsOn}
use Rattle.rank_order.proofs.classes.labels_met.Given as goal

abbrev pub invariant-loop-at : goal.invariant-loop-at
invariant-loop-at l = MeetsOn (λ label. label) l.fn.labels l.count l.is_met.items l.heads.items (drop l.at l.fn.labels)
