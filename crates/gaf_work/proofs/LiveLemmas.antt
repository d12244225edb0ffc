-- The ids of a project's objects, as one comes or goes.
use Rattle.std.proofs.Common.{◌≡◌, ◌≢◌, ℕ, zero, suc, ◌<◌, ◌≤◌, Bool, true, false, not, List, [], ◌∷◌, get_or, insert, remove, length, Option, None, Result, MatchResult, cond, refl, sym, ap, subst, ◌∙◌, arith}
use Rattle.std.specs.declared.cmp.Ordering.{Ordering}
use Rattle.std.specs.declared.cmp.Ordering.TheVariants.{Less, Equal, Greater}
use Rattle.std.specs.Ordering.{MatchOrdering, eq_by_cmp, is_eq, nat_cmp}
use Rattle.std.specs.Cmp.{Equal-is, nat_cmp_is, ranks}
use Rattle.std.specs.List.Sorted.{IsBinarySearchResult}
use Rattle.std.specs.Map.{keys_of}
use Rattle.std.specs.FinMap as finite
use Rattle.std.specs.FinMap.{FinMap, entries, entries-insert, entries_sorted, get-entries, get-remove}
use Rattle.std.specs.FinMap.Entries.{by_order, find-where_key, is_sorted-where_key, put, same_entries, where_key}
use Rattle.std.proofs.lemmas.Cmp.{eq_by_cmp_equiv, nat_cmp_total}
use Rattle.std.proofs.lemmas.List.Sorted.{searched}
use Rattle.std.proofs.lemmas.Map.Keys.{below_from_sorted, non_decreasing_from_sorted}
use Rattle.std.proofs.lemmas.Map.Lookups.{exact_unsigned}
use Rattle.project_model.proofs.OrderedRows.{keys_sorted}

tied : (k q : ℕ) → q ≡ k → eq_by_cmp nat_cmp k q ≡ true
tied k q e = ap is_eq (sym (nat_cmp_is k q Equal (sym e)))

apart : (k q : ℕ) → q ≢ k → eq_by_cmp nat_cmp k q ≡ false
apart k q other = go (eq_by_cmp nat_cmp k q) refl
  where
    go : (b : Bool) → eq_by_cmp nat_cmp k q ≡ b → eq_by_cmp nat_cmp k q ≡ false
    go true e = absurd (other (sym (exact_unsigned k q ((Equal-is (nat_cmp k q)).0 e))))
    go false e = e

-- whether an id is another
abbrev is_other : ℕ → ℕ → Bool
is_other k x = not (eq_by_cmp nat_cmp k x)

module _ {V : Type 0} where
  -- a new key goes to its place
  put_new : (es : List (ℕ × V)) (i k : ℕ) (v : V) → i ≤ length (keys_of es) → ((j : ℕ) → j < i → get_or (keys_of es) j 0 < k) → ((j : ℕ) → i ≤ j → j < length (keys_of es) → k < get_or (keys_of es) j 0) → keys_of (put nat_cmp k v es) ≡ insert (keys_of es) i k
  put_new [] zero k v within low high = refl
  put_new [] (suc i) k v within low high = absurd (omega (arith, within))
  put_new (e ∷ es) zero k v within low high =
      subst (λ r. keys_of (by_order r ((k, v) ∷ e ∷ es) ((e.0, v) ∷ es) (e ∷ put nat_cmp k v es)) ≡ k ∷ e.0 ∷ keys_of es)
      (nat_cmp_is k e.0 Less (high 0 (omega arith) (omega arith))) refl
  put_new (e ∷ es) (suc i) k v within low high =
      let rest = put_new es i k v (omega (arith, within)) (λ j lt. low (suc j) (omega arith)) (λ j le lt. high (suc j) (omega arith) (omega arith)) in
      subst (λ r. keys_of (by_order r ((k, v) ∷ e ∷ es) ((e.0, v) ∷ es) (e ∷ put nat_cmp k v es)) ≡ e.0 ∷ insert (keys_of es) i k)
      (nat_cmp_is k e.0 Greater (low 0 (omega arith))) (ap (◌∷◌ e.0) rest)

  -- a key that is there stays
  put_same : (es : List (ℕ × V)) (i k : ℕ) (v : V) → i < length (keys_of es) → get_or (keys_of es) i 0 ≡ k → ((j : ℕ) → j < i → get_or (keys_of es) j 0 < k) → keys_of (put nat_cmp k v es) ≡ keys_of es
  put_same [] i k v within at low = absurd (omega (arith, within))
  put_same (e ∷ es) zero k v within at low =
      subst (λ r. keys_of (by_order r ((k, v) ∷ e ∷ es) ((e.0, v) ∷ es) (e ∷ put nat_cmp k v es)) ≡ e.0 ∷ keys_of es)
      (nat_cmp_is k e.0 Equal (sym at)) refl
  put_same (e ∷ es) (suc i) k v within at low =
      let rest = put_same es i k v (omega (arith, within)) at (λ j lt. low (suc j) (omega arith)) in
      subst (λ r. keys_of (by_order r ((k, v) ∷ e ∷ es) ((e.0, v) ∷ es) (e ∷ put nat_cmp k v es)) ≡ e.0 ∷ keys_of es)
      (nat_cmp_is k e.0 Greater (low 0 (omega arith))) (ap (◌∷◌ e.0) rest)

  -- without a key that is not there, the keys stay
  without_none : (es : List (ℕ × V)) (k : ℕ) → ((j : ℕ) → j < length (keys_of es) → get_or (keys_of es) j 0 ≢ k) → keys_of (where_key nat_cmp (is_other k) es) ≡ keys_of es
  without_none [] k others = refl
  without_none (e ∷ es) k others =
      let rest = without_none es k (λ j lt. others (suc j) (omega arith)) in
      subst (λ b. keys_of (cond (not b) (e ∷ where_key nat_cmp (is_other k) es) (where_key nat_cmp (is_other k) es)) ≡ e.0 ∷ keys_of es)
      (sym (apart k e.0 (others 0 (omega arith)))) (ap (◌∷◌ e.0) rest)

  -- without a key that is there, it leaves its place
  without_one : (es : List (ℕ × V)) (i k : ℕ) → i < length (keys_of es) → get_or (keys_of es) i 0 ≡ k → ((j : ℕ) → j < length (keys_of es) → j ≢ i → get_or (keys_of es) j 0 ≢ k) → keys_of (where_key nat_cmp (is_other k) es) ≡ remove (keys_of es) i
  without_one [] i k within at others = absurd (omega (arith, within))
  without_one (e ∷ es) zero k within at others =
      let rest = without_none es k (λ j lt. others (suc j) (omega arith) (λ same. absurd cc)) in
      subst (λ b. keys_of (cond (not b) (e ∷ where_key nat_cmp (is_other k) es) (where_key nat_cmp (is_other k) es)) ≡ keys_of es)
      (sym (tied k e.0 at)) rest
  without_one (e ∷ es) (suc i) k within at others =
      let rest = without_one es i k (omega (arith, within)) at (λ j lt other. others (suc j) (omega arith) (λ same. other (omega (arith, same)))) in
      subst (λ b. keys_of (cond (not b) (e ∷ where_key nat_cmp (is_other k) es) (where_key nat_cmp (is_other k) es)) ≡ e.0 ∷ remove (keys_of es) i)
      (sym (apart k e.0 (others 0 (omega arith) (λ same. absurd cc)))) (ap (◌∷◌ e.0) rest)

  turned : (b : Bool) (found : Option V) → cond b None found ≡ cond (not b) found None
  turned true found = refl
  turned false found = refl

  -- the rows without a key
  entries-remove : (m : FinMap nat_cmp V) (k : ℕ) → entries (finite.remove m k) ≡ where_key nat_cmp (is_other k) (entries m)
  entries-remove m k =
      same_entries nat_cmp nat_cmp_total exact_unsigned (entries (finite.remove m k)) (where_key nat_cmp (is_other k) (entries m))
      (entries_sorted (finite.remove m k)) (is_sorted-where_key nat_cmp (is_other k) (entries m) (entries_sorted m)) (λ q.
      sym (get-entries (finite.remove m k) q) ∙ get-remove nat_cmp_total m k q
      ∙ ap (λ b. cond b None (finite.get m q)) ((eq_by_cmp_equiv nat_cmp_total).symm q k)
      ∙ turned (eq_by_cmp nat_cmp k q) (finite.get m q)
      ∙ ap (λ found. cond (is_other k q) found None) (get-entries m q)
      ∙ sym (find-where_key nat_cmp (is_other k) q (λ x tie. ap (is_other k) (sym (exact_unsigned q x tie))) (entries m)))

  below : (m : FinMap nat_cmp V) (i j : ℕ) → i < j → j < length (finite.keys m) → get_or (finite.keys m) i 0 < get_or (finite.keys m) j 0
  below m i j lt end = below_from_sorted (finite.keys m) i j 0 (keys_sorted nat_cmp (entries m) (entries_sorted m)) lt end

  rise : (m : FinMap nat_cmp V) (i j : ℕ) → i ≤ j → j < length (finite.keys m) → get_or (finite.keys m) i 0 ≤ get_or (finite.keys m) j 0
  rise m i j le end = non_decreasing_from_sorted (finite.keys m) (keys_sorted nat_cmp (entries m) (entries_sorted m)) i j 0 le end

  -- a key stands at a place, or would come there
  abbrev Stands : FinMap nat_cmp V → ℕ → ℕ → Type 0
  Stands m k i = (i < length (finite.keys m)) × (get_or (finite.keys m) i 0 ≡ k)

  abbrev Comes : FinMap nat_cmp V → ℕ → ℕ → Type 0
  Comes m k i = (i ≤ length (finite.keys m)) × ((j : ℕ) → j < i → get_or (finite.keys m) j 0 < k) × ((j : ℕ) → i ≤ j → j < length (finite.keys m) → k < get_or (finite.keys m) j 0)

  others_of : (m : FinMap nat_cmp V) (k i : ℕ) → Stands m k i → (j : ℕ) → j < length (finite.keys m) → j ≢ i → get_or (finite.keys m) j 0 ≢ k
  others_of m k i (within, at) j lt other same = by (nat_cmp j i) (ranks j i)
    where
      by : (r : Ordering) → MatchOrdering r (j < i) (j ≡ i) (i < j) → ⊥
      by Less h = let l = below m j i h within in absurd (omega (arith, l, at, same))
      by Equal h = other h
      by Greater h = let l = below m i j h lt in absurd (omega (arith, l, at, same))

  none_of : (m : FinMap nat_cmp V) (k i : ℕ) → Comes m k i → (j : ℕ) → j < length (finite.keys m) → get_or (finite.keys m) j 0 ≢ k
  none_of m k i (within, low, high) j lt same = by (nat_cmp j i) (ranks j i)
    where
      by : (r : Ordering) → MatchOrdering r (j < i) (j ≡ i) (i < j) → ⊥
      by Less h = let l = low j h in absurd (omega (arith, l, same))
      by Equal h = let l = high j (omega (arith, h)) lt in absurd (omega (arith, l, same))
      by Greater h = let l = high j (omega (arith, h)) lt in absurd (omega (arith, l, same))

  -- what a search in the keys answers
  abbrev pub IsFound : FinMap nat_cmp V → ℕ → Result ℕ ℕ → Type 0
  IsFound m k r = MatchResult r (Stands m k) (Comes m k)

  pub found : (m : FinMap nat_cmp V) (k : ℕ) (r : Result ℕ ℕ) (ids : List ℕ) → ids ≡ finite.keys m → IsBinarySearchResult (λ y. nat_cmp y k) ids r → IsFound m k r
  found m k r ids same is = searched (finite.keys m) k r (subst (λ ks. IsBinarySearchResult (λ y. nat_cmp y k) ks r) same is) (rise m)

  pub put_found : (m : FinMap nat_cmp V) (k i : ℕ) (v : V) → Stands m k i → finite.keys m ≡ finite.keys (finite.insert m k v)
  put_found m k i v (within, at) =
      sym (ap keys_of (entries-insert nat_cmp_total m k v) ∙ put_same (entries m) i k v within at (λ j lt. let l = below m j i lt within in omega (arith, l, at)))

  pub put_missing : (m : FinMap nat_cmp V) (k i : ℕ) (v : V) → Comes m k i → insert (finite.keys m) i k ≡ finite.keys (finite.insert m k v)
  put_missing m k i v (within, low, high) = sym (ap keys_of (entries-insert nat_cmp_total m k v) ∙ put_new (entries m) i k v within low high)

  pub remove_found : (m : FinMap nat_cmp V) (k i : ℕ) → Stands m k i → remove (finite.keys m) i ≡ finite.keys (finite.remove m k)
  remove_found m k i stands = sym (ap keys_of (entries-remove m k) ∙ without_one (entries m) i k stands.0 stands.1 (others_of m k i stands))

  pub remove_missing : (m : FinMap nat_cmp V) (k i : ℕ) → Comes m k i → finite.keys m ≡ finite.keys (finite.remove m k)
  remove_missing m k i comes = sym (ap keys_of (entries-remove m k) ∙ without_none (entries m) k (none_of m k i comes))
