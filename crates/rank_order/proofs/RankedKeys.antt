-- What ranks tell of their keys.
use Rattle.std.proofs.Common.{◌≡◌, ℕ, zero, suc, ◌<◌, List, [], ◌∷◌, length, map, get_or, Option, Some, None, Ordering, refl, sym, ap, subst, ◌∙◌, arith}
use Rattle.std.specs.Prelude.{option_map, slice_get, slice_index}
use Rattle.std.specs.declared.cmp.Ordering.TheVariants.{Less, Equal}
use Rattle.std.specs.Ordering.{nat_cmp, ordering_reverse}
use Rattle.std.specs.Option.{option_cmp}
use Rattle.std.specs.List.{AllByRecursion}
use Rattle.std.specs.Cmp.{IsTotalOrder}
use Rattle.geda_defs.specs.Order.{once_in_order}
use Rattle.geda_defs.proofs.OnceLaws.{is_once_in_order}
use Rattle.rank_order.specs.Keys.{AreRanks}
use Rattle.rank_order.proofs.OrderLemmas.{once_agrees}
use Rattle.rank_order.proofs.KeyLemmas.{key_at, length_map, rising_compares, some_key}

-- ranks compare as their keys do, and are below their count
module _ {K : Type 0} {cmp : K → K → Ordering} (o : IsTotalOrder cmp) (keys : List K) (ranks : List ℕ) (count : ℕ) (are : AreRanks cmp keys ranks count) where
  abbrev listed : List K
  listed = once_in_order cmp keys

  -- a key of the order that equals this one
  abbrev Ranked : ℕ → K → Type 0
  Ranked i d = (key : K) × (slice_get listed (slice_index ranks i) ≡ Some key) × (cmp key (get_or keys i d) ≡ Equal)

  ranked : (i : ℕ) (d : K) → i < length keys → Ranked i d
  ranked i d h = by (slice_get listed (slice_index ranks i)) refl (sym (ap (option_cmp cmp (slice_get listed (slice_index ranks i))) (key_at keys i d h)) ∙ are.each i h)
    where
      by : (k : Option K) → slice_get listed (slice_index ranks i) ≡ k → option_cmp cmp (slice_get listed (slice_index ranks i)) (Some (get_or keys i d)) ≡ Equal → Ranked i d
      by None e f = absurd (let g : Less ≡ Equal = sym (ap (λ (k : Option K). option_cmp cmp k (Some (get_or keys i d))) e) ∙ f in cc)
      by (Some k) e f = (k, e, sym (ap (λ (x : Option K). option_cmp cmp x (Some (get_or keys i d))) e) ∙ f)

  within : (xs : List K) (i : ℕ) (k : K) → slice_get xs i ≡ Some k → i < length xs
  within [] i k e = absurd cc
  within (x ∷ xs) zero k e = omega arith
  within (x ∷ xs) (suc i) k e = let h = within xs i k e in omega (arith, h)

  reads : (xs : List K) (i : ℕ) (k d : K) → slice_get xs i ≡ Some k → get_or xs i d ≡ k
  reads [] i k d e = absurd cc
  reads (x ∷ xs) zero k d e = cc
  reads (x ∷ xs) (suc i) k d e = reads xs i k d e

  pub rank_below : (i : ℕ) → i < length keys → slice_index ranks i < count
  rank_below i h =
      let r = ranked i (some_key keys i h) h in
      subst (λ (n : ℕ). slice_index ranks i < n) (sym are.all) (within listed (slice_index ranks i) r.0 r.1)

  -- at its rank stands what equals it
  pub rank_reads : (i : ℕ) (d : K) → i < length keys → cmp (get_or listed (slice_index ranks i) d) (get_or keys i d) ≡ Equal
  rank_reads i d h = let r = ranked i d h in ap (λ (k : K). cmp k (get_or keys i d)) (reads listed (slice_index ranks i) r.0 d r.1) ∙ r.2

  pub ranks_compare : (i j : ℕ) (d : K) → i < length keys → j < length keys → nat_cmp (slice_index ranks i) (slice_index ranks j) ≡ cmp (get_or keys i d) (get_or keys j d)
  ranks_compare i j d a b =
      let ri = ranked i d a in
      let rj = ranked j d b in
      let x = get_or keys i d in
      let y = get_or keys j d in
      let turned : cmp y x ≡ cmp rj.0 x = sym (o.congr rj.0 y x rj.2) in
      rising_compares o listed (slice_index ranks i) (slice_index ranks j) d (is_once_in_order o keys).rising (within listed (slice_index ranks i) ri.0 ri.1) (within listed (slice_index ranks j) rj.0 rj.1)
      ∙ ap (λ (k : K). cmp k (get_or listed (slice_index ranks j) d)) (reads listed (slice_index ranks i) ri.0 d ri.1)
      ∙ ap (cmp ri.0) (reads listed (slice_index ranks j) rj.0 d rj.1)
      ∙ o.congr ri.0 x rj.0 ri.2
      ∙ o.antisymm x rj.0 ∙ ap ordering_reverse (sym turned) ∙ sym (o.antisymm x y)

-- ranks of keys are those of what an order tells of them
module _ {A K : Type 0} (f : A → K) (cmp : A → A → Ordering) (other : K → K → Ordering) (agree : (x y : A) → cmp x y ≡ other (f x) (f y)) where
  all_unit : (xs : List A) → AllByRecursion (λ _. Unit {0}) xs
  all_unit [] = tt
  all_unit (x ∷ xs) = (tt, all_unit xs)

  told : (xs : List A) → map f (once_in_order cmp xs) ≡ once_in_order other (map f xs)
  told xs = once_agrees (λ _. Unit {0}) f cmp other (λ x y _ _. agree x y) xs (all_unit xs)

  option_told : (x y : Option A) → option_cmp cmp x y ≡ option_cmp other (option_map f x) (option_map f y)
  option_told None None = refl
  option_told None (Some y) = refl
  option_told (Some x) None = refl
  option_told (Some x) (Some y) = agree x y

  get_map : (xs : List A) (i : ℕ) → slice_get (map f xs) i ≡ option_map f (slice_get xs i)
  get_map [] i = refl
  get_map (x ∷ xs) zero = refl
  get_map (x ∷ xs) (suc i) = get_map xs i

  pub ranks_told : (keys : List A) (ranks : List ℕ) (count : ℕ) → AreRanks cmp keys ranks count → AreRanks other (map f keys) ranks count
  ranks_told keys ranks count are = record {
    len = are.len ∙ sym (length_map f keys);
    each = λ i h.
        ap (λ (k : Option K). option_cmp other k (slice_get (map f keys) i)) (ap (λ (ks : List K). slice_get ks (slice_index ranks i)) (sym (told keys)) ∙ get_map (once_in_order cmp keys) (slice_index ranks i))
        ∙ ap (option_cmp other (option_map f (slice_get (once_in_order cmp keys) (slice_index ranks i)))) (get_map keys i)
        ∙ sym (option_told (slice_get (once_in_order cmp keys) (slice_index ranks i)) (slice_get keys i))
        ∙ are.each i (subst (λ (n : ℕ). i < n) (length_map f keys) h);
    all = are.all ∙ sym (length_map f (once_in_order cmp keys)) ∙ ap length (told keys);
  }
