-- Keys are in a total order, and those that compare equal are equal.
use Rattle.std.proofs.Common.{ℕ, ap}
use Rattle.std.specs.Cmp.{IsTotalOrder}
use Rattle.std.specs.Ordering.{nat_cmp}
use Rattle.std.proofs.lemmas.Cmp.{nat_cmp_total, then_total, on_total}
use Rattle.std.proofs.lemmas.Map.Lookups.{CmpEqualImpliesEq, exact_unsigned, exact_pairs}
use Rattle.geda_geom.specs.Keys.{by_key}

pub by_key_total : IsTotalOrder by_key
by_key_total = then_total (on_total (λ k. k.id) nat_cmp_total) (on_total (λ k. k.place) nat_cmp_total)

pub exact_keys : CmpEqualImpliesEq by_key
exact_keys a b h =
    ap (λ (p : ℕ × ℕ). record { id = p.0; place = p.1 })
    (exact_pairs nat_cmp nat_cmp exact_unsigned exact_unsigned (a.id, a.place) (b.id, b.place) h)
