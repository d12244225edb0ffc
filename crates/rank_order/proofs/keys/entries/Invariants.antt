use Rattle.std.proofs.Common.{◌≡◌}
use Rattle.std.specs.List.{range_with_len}
use Rattle.rank_order.specs.Chains.{placed_at, seen}
use Rattle.rank_order.proofs.keys.entries.Given as goal

abbrev pub invariant-loop-at : goal.invariant-loop-at
invariant-loop-at g l = seen l.entries.items ≡ placed_at l.keys (range_with_len 0 l.at)
