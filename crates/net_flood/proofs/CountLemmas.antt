-- How many keys are found, at most.
use Rattle.std.proofs.Common.{◌≡◌, ◌≢◌, ◌≤◌, ◌+◌, ◌-◌, ◌<◌, ◌∷◌, [], ℕ, inl, inr, false, List, length, arith, Contains, IsSome, refl, sym, subst, ◌∙◌}
use Rattle.std.specs.Bool.{Decides}
use Rattle.std.specs.List.{AllByRecursion}
use Rattle.std.specs.Map.{keys_of}
use Rattle.std.specs.Ordering.{eq_by_cmp}
use Rattle.std.specs.FinMap as finite
use Rattle.std.specs.FinMap.{get}
use Rattle.std.proofs.lemmas.List.{length-map}
use Rattle.std.proofs.lemmas.List.Elements.{Contains-append_cases, Contains-append_right, Contains-push_cases}
use Rattle.std.proofs.lemmas.Map.Keys.{IsDistinct-cons}
use Rattle.std.proofs.lemmas.Map.Made.{is_member-Decides, length-le_from_is_member}
use Rattle.std.proofs.lemmas.Map.Views.{IsSome-lookup_from_Contains, tells_apart}
use Rattle.geda_geom.specs.declared.conductor.Key.{Key}
use Rattle.geda_geom.specs.Keys.{by_key}
use Rattle.geda_geom.proofs.KeyLemmas.{exact_keys}
use Rattle.touch_index.specs.steps.Sifting.{is_same_key}
use Rattle.touch_index.proofs.MapLemmas.{key_ties, same_key_equiv, same_key_exact}
use Rattle.net_flood.specs.Grouping.{Conductors}
use Rattle.net_flood.specs.steps.Partition.{Heads}
use Rattle.net_flood.specs.steps.Search.{AreUnique, IsFound}
use Rattle.net_flood.proofs.KeyLemmas.{same_apart, same_here}
use Rattle.net_flood.proofs.PartitionLemmas.{none_in}

decides_same : (a b : Key) → Decides (is_same_key a b) (a ≡ b)
decides_same a b = ((λ e. same_key_exact a b e), (λ e. same_here a b e))

decides_key : (a b : Key) → Decides (eq_by_cmp by_key a b) (a ≡ b)
decides_key a b = ((λ e. tells_apart exact_keys a b e), (λ e. sym (key_ties a b) ∙ same_here a b e))

key_found : (found : Heads) (q : Key) → Contains (keys_of found) q → IsFound found q
key_found found q c = IsSome-lookup_from_Contains same_key_equiv q found c

found_long : (found : Heads) → length (keys_of found) ≡ length found
found_long found = length-map found (λ e. e.0)

-- a list that has all that was found is as long
pub few_in : (found : Heads) (keys : List Key) → AreUnique found → ((q : Key) → IsFound found q → Contains keys q) → length found ≤ length keys
few_in found keys unique inside =
    let few : length (keys_of found) ≤ length keys = length-le_from_is_member same_key_equiv (keys_of found) keys unique
    (λ q h. (is_member-Decides decides_same keys q).1 (inside q (key_found found q ((is_member-Decides decides_same (keys_of found) q).0 h)))) in
    let long = found_long found in
    omega arith

none_ties : (key : Key) (ks : List Key) → ((q : Key) → Contains ks q → q ≢ key) → AllByRecursion (λ q. is_same_key key q ≡ false) ks
none_ties key [] apart = tt
none_ties key (k ∷ ks) apart = (
  same_apart key k (λ e. apart k (0, omega arith, refl) (sym e)),
  none_ties key ks (λ q c. apart q (Contains-append_right (k ∷ []) ks q c)),
)

-- and longer, if it has a key that was not found
pub few_beside : (found : Heads) (key : Key) (keys : List Key) → AreUnique found → Contains keys key → ((q : Key) → IsFound found q → Contains keys q) → ((q : Key) → IsFound found q → q ≢ key)
    → length found + 1 ≤ length keys
few_beside found key keys unique here inside apart =
    let few : length (key ∷ keys_of found) ≤ length keys = length-le_from_is_member same_key_equiv (key ∷ keys_of found) keys
    (IsDistinct-cons is_same_key key (keys_of found) (none_ties key (keys_of found) (λ q c. apart q (key_found found q c))) unique)
    (λ q h. (is_member-Decides decides_same keys q).1 (elim (Contains-append_cases (key ∷ []) (keys_of found) q ((is_member-Decides decides_same (key ∷ keys_of found) q).0 h)) [
      | inl c ↦ elim (Contains-push_cases [] key q c) [ inl n ↦ absurd (none_in q n) | inr e ↦ subst (Contains keys) e here ]
      | inr c ↦ inside q (key_found found q c)
    ])) in
    let long = found_long found in
    omega arith

pub few_key : (key : Key) (keys : List Key) → Contains keys key → 1 ≤ length keys
few_key key [] c = absurd (none_in key c)
few_key key (k ∷ ks) c = omega arith

-- what was found is no more than is there
pub few_there : (cs : Conductors) (found : Heads) → AreUnique found → ((q : Key) → IsFound found q → IsSome (get cs q)) → length found ≤ finite.len cs
few_there cs found unique inside =
    let few = few_in found (finite.keys cs) unique (λ q f. (is_member-Decides decides_key (finite.keys cs) q).0 (sym (finite.contains_key-keys cs q) ∙ inside q f)) in
    let long : length (finite.keys cs) ≡ length (finite.entries cs) = length-map (finite.entries cs) (λ e. e.0) in
    let same = finite.len-entries cs in
    omega arith

-- the next query of two searches, of which one has a key that waits, leaves less to do
pub less_to_do : (all before after first second third rest : ℕ) → after ≤ all → before ≤ after → first ≡ rest + 1 → third + before ≤ rest + after → (all - after) + (second + third) < (all - before) + (first + second)
less_to_do all before after first second third rest inside more long few = omega arith
