-- Sets of keys with one more, or one less.
use Rattle.std.proofs.Common.{◌≡◌, ◌≢◌, ◌⊎◌, ◌↔◌, ◌<◌, inl, inr, Bool, true, false, cond, List, [], ◌∷◌, length, Contains, refl, sym, ap, ◌∙◌, arith}
use Rattle.std.specs.BTreeMap.{is_at}
use Rattle.std.specs.BTreeSet.{BTreeSet, contains}
use Rattle.std.specs.List.{list_any}
use Rattle.std.proofs.lemmas.Map.Views.{btree_set_contains_iff}
use Rattle.geda_geom.specs.declared.conductor.Key.{Key}
use Rattle.geda_geom.specs.Keys.{by_key}
use Rattle.geda_geom.proofs.KeyLemmas.{by_key_total, exact_keys}
use Rattle.touch_index.proofs.MapLemmas.{key_ties}
use Rattle.net_flood.specs.steps.Partition.{Has, Lacks}
use Rattle.net_flood.proofs.KeyLemmas.{same_apart, same_here, same_or_apart}

at_here : (key q : Key) → q ≡ key → is_at (by_key key) q ≡ true
at_here key q e = sym (key_ties key q) ∙ same_here key q (sym e)

at_apart : (key q : Key) → q ≢ key → is_at (by_key key) q ≡ false
at_apart key q n = sym (key_ties key q) ∙ same_apart key q (λ e. n (sym e))

module _ (s n : BTreeSet Key) (key : Key) (b : Bool) (updates : (q : Key) → contains by_key n q ≡ cond (is_at (by_key key) q) b (contains by_key s q)) where
  pub update_here : (q : Key) → q ≡ key → contains by_key n q ≡ b
  update_here q e = updates q ∙ (λ i. cond (at_here key q e i) b (contains by_key s q))

  pub update_apart : (q : Key) → q ≢ key → contains by_key n q ≡ contains by_key s q
  update_apart q other = updates q ∙ (λ i. cond (at_apart key q other i) b (contains by_key s q))

pub set_more : (s n : BTreeSet Key) (key : Key) → ((q : Key) → contains by_key n q ≡ cond (is_at (by_key key) q) true (contains by_key s q)) → (q : Key) → Has n q ↔ (Has s q ⊎ (q ≡ key))
set_more s n key updates q = elim (same_or_apart q key) [
  | inl e ↦ ((λ h. inr e), (λ h. update_here s n key true updates q e))
  | inr other ↦
      let same = update_apart s n key true updates q other in (
        (λ h. inl (sym same ∙ h)),
        (λ h. elim h [ inl x ↦ same ∙ x | inr e ↦ absurd (other e) ]),
      )
]

pub set_none : (s : BTreeSet Key) → s.keys ≡ [] → (q : Key) → Lacks s q
set_none s e q = ap (λ ks. list_any (is_at (by_key q)) ks) e

pub lacks_not : (s : BTreeSet Key) (q : Key) → Has s q → Lacks s q → ⊥
lacks_not s q h l = let p : true ≡ false = sym h ∙ l in absurd (cc)

pub not_lacks : (s : BTreeSet Key) (q : Key) → (Has s q → ⊥) → Lacks s q
not_lacks s q never = go (contains by_key s q) refl
  where
    go : (b : Bool) → contains by_key s q ≡ b → Lacks s q
    go true e = absurd (never e)
    go false e = e

pub has_or_lacks : (s : BTreeSet Key) (q : Key) → Has s q ⊎ Lacks s q
has_or_lacks s q = go (contains by_key s q) refl
  where
    go : (b : Bool) → contains by_key s q ≡ b → Has s q ⊎ Lacks s q
    go true e = inl e
    go false e = inr e

some_key : (ks : List Key) (q : Key) → list_any (is_at (by_key q)) ks ≡ true → 0 < length ks
some_key [] q h = absurd (cc)
some_key (k ∷ ks) q h = omega arith

pub has_some : (s : BTreeSet Key) (q : Key) → Has s q → 0 < length s.keys
has_some s q h = some_key s.keys q h

pub has_contains : (s : BTreeSet Key) (q : Key) → Has s q ↔ Contains s.keys q
has_contains s q = btree_set_contains_iff by_key_total exact_keys s q
