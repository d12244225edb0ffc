-- The keys of the conductors, where one comes or goes.
use Rattle.std.proofs.Common.{◌≡◌, inl, inr, true, false, cond, is_some, sym, ap, ◌∙◌}
use Rattle.std.specs.BTreeMap.{is_at}
use Rattle.std.specs.BTreeSet.{BTreeSet, contains}
use Rattle.std.specs.FinMap.{get, insert, remove}
use Rattle.geda_geom.specs.declared.conductor.Conductor.{Conductor}
use Rattle.geda_geom.specs.declared.conductor.Key.{Key}
use Rattle.geda_geom.specs.Keys.{by_key}
use Rattle.net_flood.specs.Grouping.{Conductors}
use Rattle.net_flood.proofs.ConductorLemmas.{get_inserted, get_removed, none_removed, some_inserted}
use Rattle.net_flood.proofs.KeyLemmas.{same_or_apart}
use Rattle.net_flood.proofs.SetLemmas.{update_apart, update_here}

-- the set has the keys of the conductors
abbrev pub HasKeys : Conductors → BTreeSet Key → Type 0
HasKeys cs keys = (k : Key) → is_some (get cs k) ≡ contains by_key keys k

module _ (cs new : Conductors) (keys after : BTreeSet Key) (key : Key) (same : HasKeys cs keys) where
  pub keys_with : (v : Conductor) → new ≡ insert cs key v → ((q : Key) → contains by_key after q ≡ cond (is_at (by_key key) q) true (contains by_key keys q)) → HasKeys new after
  keys_with v are updates k = ap (λ (m : Conductors). is_some (get m k)) are ∙ elim (same_or_apart k key) [
    | inl e ↦ ap (λ x. is_some (get (insert cs key v) x)) e ∙ ap is_some (some_inserted cs key v) ∙ sym (update_here keys after key true updates k e)
    | inr apart ↦ ap is_some (get_inserted cs key v k apart) ∙ same k ∙ sym (update_apart keys after key true updates k apart)
  ]

  pub keys_without : new ≡ remove cs key → ((q : Key) → contains by_key after q ≡ cond (is_at (by_key key) q) false (contains by_key keys q)) → HasKeys new after
  keys_without are updates k = ap (λ (m : Conductors). is_some (get m k)) are ∙ elim (same_or_apart k key) [
    | inl e ↦ ap (λ x. is_some (get (remove cs key) x)) e ∙ ap is_some (none_removed cs key) ∙ sym (update_here keys after key false updates k e)
    | inr apart ↦ ap is_some (get_removed cs key k apart) ∙ same k ∙ sym (update_apart keys after key false updates k apart)
  ]
