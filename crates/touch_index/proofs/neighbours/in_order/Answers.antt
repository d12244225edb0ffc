use Rattle.std.proofs.Common.{Contains, subst, sym}
use Rattle.std.proofs.lemmas.List.Filters.{dedup_is}
use Rattle.std.proofs.lemmas.List.Kept.{Contains-dedup, Contains-from_dedup, IsStrictlySortedBy-dedup}
use Rattle.std.proofs.lemmas.List.Sorted.{Contains-permutation, IsPermutation-sym}
use Rattle.std.specs.List.Sorted.{IsStrictlySortedBy}
use Rattle.geda_geom.specs.Keys.{by_key}
use Rattle.geda_geom.proofs.KeyLemmas.{by_key_total}
use Rattle.touch_index.specs.steps.Sifting.{is_same_key}
use Rattle.touch_index.proofs.MapLemmas.{key_ties, same_key_equiv, same_key_exact}
use Rattle.touch_index.proofs.neighbours.in_order.Goals as goal

pub returns-clause-rising : goal.returns-clause-rising
returns-clause-rising c =
    let is = dedup_is is_same_key c.sort_unstable.new.self.items c.dedup.new.self.items c.dedup.ensures.filtered in
    subst (IsStrictlySortedBy by_key) (sym is)
    (IsStrictlySortedBy-dedup by_key_total {E = is_same_key} key_ties c.sort_unstable.new.self.items c.sort_unstable.ensures.sorted)

pub returns-clause-same : goal.returns-clause-same
returns-clause-same c = λ q.
    let is = dedup_is is_same_key c.sort_unstable.new.self.items c.dedup.new.self.items c.dedup.ensures.filtered in
    let moved = c.sort_unstable.ensures.permutation in (
      (λ h. Contains-permutation _ _ q (IsPermutation-sym _ _ moved) (Contains-from_dedup is_same_key _ q (subst (λ ks. Contains ks q) is h))),
      (λ h. subst (λ ks. Contains ks q) (sym is) (Contains-dedup same_key_equiv same_key_exact _ q (Contains-permutation _ _ q moved h))),
    )
