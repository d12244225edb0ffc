-- Findings stand in one order.
use Rattle.std.proofs.Common.{◌≡◌, ◌∙◌, ◌⊎◌, ◌↔◌, zero, suc, true, List, [], ◌∷◌, Contains, inl, inr, refl, sym, ap, arith}
use Rattle.std.specs.Cmp.{IsTotalOrder, eq_by_cmp_equiv}
use Rattle.std.specs.List.{AllByRecursion}
use Rattle.std.specs.List.Sorted.{IsStrictlySortedBy}
use Rattle.std.specs.Ordering.{is_eq, ordering_reverse}
use Rattle.std.specs.declared.cmp.Ordering.{Ordering}
use Rattle.std.specs.declared.cmp.Ordering.TheVariants.{Less}
use Rattle.std.proofs.lemmas.List.Elements.{All-contains, All-from_recursion}
use Rattle.sym_check.specs.declared.finding.SymFinding.{SymFinding}
use Rattle.sym_check.specs.Order.{AreInOrder, by_symbol_finding, by_symbol_finding_total}

head_or : {K : Type 0} (y k : K) (ys : List K) → Contains (y ∷ ys) k → (y ≡ k) ⊎ Contains ys k
head_or y k ys (zero, lt, e) = inl e
head_or y k ys (suc i, lt, e) = inr (i, omega (arith, lt), e)

behind : {K : Type 0} (y k : K) (ys : List K) → Contains ys k → Contains (y ∷ ys) k
behind y k ys at = (suc at.0, omega (arith, at.1), at.2)

module _ {K : Type 0} (R : K → K → Ordering) (o : IsTotalOrder R) where
  -- what is below all others is below each
  below : (x : K) (ys : List K) → AllByRecursion (λ y. R x y ≡ Less) ys → (y : K) → Contains ys y → R x y ≡ Less
  below x ys all y at = All-contains (λ z. R x z ≡ Less) ys y (All-from_recursion (λ z. R x z ≡ Less) ys all) at

  not_itself : (x y : K) → R x y ≡ Less → x ≡ y → ⊥
  not_itself x y less same =
      let itself : R x x ≡ Less = ap (R x) same ∙ less in
      let equal : is_eq Less ≡ true = ap is_eq (sym itself) ∙ (eq_by_cmp_equiv o).refl x in
      absurd (let h = equal in cc)

  not_both : (x y : K) → R x y ≡ Less → R y x ≡ Less → ⊥
  not_both x y less more =
      let turned : Less ≡ ordering_reverse Less = sym less ∙ o.antisymm x y ∙ ap ordering_reverse more in
      absurd (let h = turned in cc)

  heads : (x y : K) (xs ys : List K) → AllByRecursion (λ z. R x z ≡ Less) xs → AllByRecursion (λ z. R y z ≡ Less) ys
      → Contains (y ∷ ys) x → Contains (x ∷ xs) y → x ≡ y
  heads x y xs ys a b there here = by (head_or y x ys there) (head_or x y xs here)
    where
      by : (y ≡ x) ⊎ Contains ys x → (x ≡ y) ⊎ Contains xs y → x ≡ y
      by (inl e) second = sym e
      by (inr at) (inl e) = e
      by (inr at) (inr other) = absurd (not_both x y (below x xs a y other) (below y ys b x at))

  -- behind two equal ones the others are the same
  others : (x y k : K) (xs ys : List K) → x ≡ y → AllByRecursion (λ z. R x z ≡ Less) xs
      → (Contains (x ∷ xs) k → Contains (y ∷ ys) k) → Contains xs k → Contains ys k
  others x y k xs ys same a has at = by (head_or y k ys (has (behind x k xs at)))
    where
      by : (y ≡ k) ⊎ Contains ys k → Contains ys k
      by (inl e) = absurd (not_itself x k (below x xs a k at) (same ∙ e))
      by (inr inside) = inside

  first_in : (x : K) (xs : List K) → Contains (x ∷ xs) x
  first_in x xs = (0, omega arith, refl)

  none_in : (x : K) → Contains [] x → ⊥
  none_in x at = absurd (omega (arith, at.1))

  one : (xs ys : List K) → IsStrictlySortedBy R xs → IsStrictlySortedBy R ys → ((k : K) → Contains xs k ↔ Contains ys k) → xs ≡ ys
  unfolding IsStrictlySortedBy
  one [] [] a b h = refl
  one [] (y ∷ ys) a b h = absurd (none_in y ((h y).1 (first_in y ys)))
  one (x ∷ xs) [] a b h = absurd (none_in x ((h x).0 (first_in x xs)))
  one (x ∷ xs) (y ∷ ys) a b h =
      let same = heads x y xs ys a.0 b.0 ((h x).0 (first_in x xs)) ((h y).1 (first_in y ys)) in
      let rest = one xs ys a.1 b.1 (λ k. (others x y k xs ys same a.0 (h k).0, others y x k ys xs (sym same) b.0 (h k).1)) in
      rw (same, rest) refl

-- so the findings of a list in order are one list
pub one_list : (found first second : List SymFinding) → AreInOrder found first → AreInOrder found second → first ≡ second
one_list found first second a b =
    one by_symbol_finding by_symbol_finding_total first second a.rising b.rising
    (λ f. (λ at. (b.same f).1 ((a.same f).0 at), λ at. (a.same f).1 ((b.same f).0 at)))
