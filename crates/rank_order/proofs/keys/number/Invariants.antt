use Rattle.std.proofs.Common.{◌≡◌, ◌<◌, length}
use Rattle.rank_order.specs.Keys.{same_key}
use Rattle.rank_order.proofs.KeyLemmas.{NumbersOn}
use Rattle.rank_order.proofs.keys.number.Given as goal

abbrev pub invariant-loop-at : goal.invariant-loop-at
invariant-loop-at g l = record {
  len : length l.ranks.items ≡ length l.fn.ranks.items;
  head : l.run.0 < length l.keys;
  on : NumbersOn (same_key g.K.Ord.cmp l.keys) l.places l.at l.run l.ranks.items;
}
