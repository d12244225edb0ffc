use Rattle.std.proofs.Common.{List, ℕ, subst}
use Rattle.geda_defs.specs.Order.{by_bytes}
use Rattle.rank_order.specs.Keys.{AreRanks}
use Rattle.net_names.proofs.packages.part_ranks.Goals as goal

pub returns : goal.returns
returns c =
    let ranks = c.in_ok-ranks.ranks in
    subst (λ (keys : List (List ℕ)). AreRanks by_bytes keys ranks.ranks.items ranks.count) c.in_ok-headed.ensures
    (rw c.deref.ensures.value at c.in_ok-ranks.ensures)
