-- What the groups keep, from call to call.
use Rattle.std.proofs.Common.{◌≡◌, ℕ, ◌≢◌, ◌↔◌, inl, inr, true, false, cond, Some, None, IsSome, is_some, sym, ap, subst, ◌∙◌}
use Rattle.std.specs.BTreeSet.{BTreeSet}
use Rattle.std.specs.FinMap.{empty, get, get-empty, insert, remove, same_map}
use Rattle.geda_geom.specs.declared.conductor.Key.{Key}
use Rattle.geda_geom.specs.declared.conductor.Conductor.{Conductor}
use Rattle.geda_geom.specs.Keys.{by_key}
use Rattle.geda_geom.proofs.KeyLemmas.{by_key_total, exact_keys}
use Rattle.net_flood.specs.Grouping.{Conductors, HasSize, IsLeast}
use Rattle.net_flood.specs.declared.partition.Partition.{Partition}
use Rattle.net_flood.specs.steps.Partition.{Has, IsLeastOf, IsSizeOf, IsMember, IsPartition, KeepsKeys, LosesHead, Members, Rows, SetsHead, Together, head_at, heads_of, members_of}
use Rattle.net_flood.specs.steps.Kept.{AreGroups, HasKeys, IsBefore, IsKept}
use Rattle.net_flood.proofs.ConductorLemmas.{get_inserted, get_removed, none_removed, removed_apart, some_inserted}
use Rattle.net_flood.proofs.GroupLemmas.{before_joining}
use Rattle.net_flood.proofs.KeyLemmas.{same_apart, same_here, same_or_apart}

pub kept_none : (cs : Conductors) (p : Partition) → cs ≡ empty → ((k : Key) → heads_of p k ≡ None) → IsPartition (heads_of p) (members_of p) → IsKept cs true p
kept_none cs p none heads is = record {
  partition = is;
  keys = λ k. ap is_some (heads k) ∙ sym (ap is_some (nothing k));
  groups = λ fresh. record {
    sound = λ k q t. let no_head : None ≡ Some t.0 = sym (heads k) ∙ is.one t.0 k t.1 in absurd (cc);
    whole = λ k q g. let p : false ≡ true = sym (ap is_some (nothing k)) ∙ g.0 in absurd (cc);
  };
}
  where
    nothing : (k : Key) → get cs k ≡ None
    nothing k = ap (λ (m : Conductors). get m k) none ∙ get-empty by_key k

pub least_is : (cs : Conductors) (M : Members) (key least : Key) → AreGroups cs M → IsLeastOf (Together M key) least → IsLeast cs key least
least_is cs M key least groups is = record {
  member = groups.sound key least is.member;
  first = λ q g. is.first q (groups.whole key q g);
}

pub size_is : (cs : Conductors) (M : Members) (key : Key) (size : ℕ) → AreGroups cs M → IsSizeOf (Together M key) size → HasSize cs key size
size_is cs M key size groups is = record {
  keys = is.keys;
  group = record {
    rising = is.rising;
    same = λ q. ((λ c. groups.sound key q ((is.same q).0 c)), (λ g. (is.same q).1 (groups.whole key q g)));
  };
  count = is.count;
}

-- the keys with a key more, and with one less
pub keys_with : (cs new : Conductors) (key : Key) (v : Conductor) (old p : Partition) → new ≡ insert cs key v → HasKeys cs (heads_of old) → SetsHead key key old p → HasKeys new (heads_of p)
keys_with cs new key v old p are keys sets k = elim (same_or_apart k key) [
  | inl e ↦
      let here : heads_of p k ≡ Some key = sets k ∙ (λ i. cond (same_here key k (sym e) i) (Some key) (heads_of old k)) in
      let there : get new k ≡ Some v = ap (λ (m : Conductors). get m k) are ∙ ap (get (insert cs key v)) e ∙ some_inserted cs key v in
      ap is_some here ∙ sym (ap is_some there)
  | inr other ↦
      let here : heads_of p k ≡ heads_of old k = sets k ∙ (λ i. cond (same_apart key k (λ e. other (sym e)) i) (Some key) (heads_of old k)) in
      let there : get new k ≡ get cs k = ap (λ (m : Conductors). get m k) are ∙ get_inserted cs key v k other in
      ap is_some here ∙ keys k ∙ sym (ap is_some there)
]

pub keys_without : (cs new : Conductors) (key : Key) (old p : Partition) → new ≡ remove cs key → HasKeys cs (heads_of old) → LosesHead key old p → HasKeys new (heads_of p)
keys_without cs new key old p are keys loses k = elim (same_or_apart k key) [
  | inl e ↦
      let here : heads_of p k ≡ None = loses k ∙ (λ i. cond (same_here key k (sym e) i) None (heads_of old k)) in
      let there : get new k ≡ None = ap (λ (m : Conductors). get m k) are ∙ ap (get (remove cs key)) e ∙ none_removed cs key in
      ap is_some here ∙ sym (ap is_some there)
  | inr other ↦
      let here : heads_of p k ≡ heads_of old k = loses k ∙ (λ i. cond (same_apart key k (λ e. other (sym e)) i) None (heads_of old k)) in
      let there : get new k ≡ get cs k = ap (λ (m : Conductors). get m k) are ∙ get_removed cs key k other in
      ap is_some here ∙ keys k ∙ sym (ap is_some there)
]

pub keys_kept : (cs new : Conductors) (old p : Partition) → new ≡ cs → HasKeys cs (heads_of old) → KeepsKeys old p → HasKeys new (heads_of p)
keys_kept cs new old p are keys keeps k = keeps k ∙ keys k ∙ ap is_some (ap (λ (m : Conductors). get m k) (sym are))

pub heads_kept : (old p : Partition) → p.heads.entries ≡ old.heads.entries → KeepsKeys old p
heads_kept old p same k = ap (λ es. is_some (head_at es k)) same

-- groups that are given up
pub invalidated : (cs : Conductors) (p : Partition) → HasKeys cs (heads_of p) → ((h k : Key) → members_of p h k → ⊥) → IsKept cs false p
invalidated cs p keys none = record {
  partition = record { one = λ h k m. absurd (none h k m); own = λ h k m. absurd (none h k m) };
  keys = keys;
  groups = λ fresh. absurd (cc);
}

pub kept_groups : (cs : Conductors) (p : Partition) → IsPartition (heads_of p) (members_of p) → HasKeys cs (heads_of p) → AreGroups cs (members_of p) → IsKept cs true p
kept_groups cs p is keys groups = record { partition = is; keys = keys; groups = λ fresh. groups }

-- a key that came into no group yet
pub before_insert : (cs new : Conductors) (key : Key) (v : Conductor) (old p : Partition) → new ≡ insert cs key v → get cs key ≡ None → IsPartition (heads_of old) (members_of old)
    → HasKeys cs (heads_of old) → AreGroups cs (members_of old) → p.rows.entries ≡ old.rows.entries → IsBefore new key (members_of p)
before_insert cs new key v old p are free is keys groups rows =
    subst (λ (m : Conductors). IsBefore m key (members_of p)) (sym are)
    (subst (λ (rs : Rows). IsBefore (insert cs key v) key (IsMember rs)) (sym rows) (before_joining cs key v free (members_of old) (heads_of old) is keys groups))

pub there_inserted : (cs new : Conductors) (key : Key) (v : Conductor) → new ≡ insert cs key v → IsSome (get new key)
there_inserted cs new key v are = ap is_some (ap (λ (m : Conductors). get m key) are ∙ some_inserted cs key v)

-- a conductor that came is taken back
pub taken_back : (cs new : Conductors) (key : Key) (v : Conductor) → get cs key ≡ None → new ≡ remove (insert cs key v) key → new ≡ cs
taken_back cs new key v free are = are ∙ same_map by_key_total exact_keys (remove (insert cs key v) key) cs (λ q. elim (same_or_apart q key) [
  | inl e ↦ ap (get (remove (insert cs key v) key)) e ∙ none_removed (insert cs key v) key ∙ sym free ∙ ap (get cs) (sym e)
  | inr other ↦ get_removed (insert cs key v) key q other ∙ get_inserted cs key v q other
])

-- a key that went
pub kept_without : (cs new : Conductors) (key : Key) (old p : Partition) → new ≡ remove cs key → IsPartition (heads_of old) (members_of old) → HasKeys cs (heads_of old)
    → AreGroups (remove cs key) (members_of old) → LosesHead key old p → p.rows.entries ≡ old.rows.entries → IsKept new true p
kept_without cs new key old p are is keys groups loses rows = record {
  partition = record { one = one; own = λ h k m. back h h (is.own h k (was h k m)) };
  keys = keys_without cs new key old p are keys loses;
  groups = λ fresh. subst (λ (m : Conductors). AreGroups m (members_of p)) (sym are) (subst (λ (rs : Rows). AreGroups (remove cs key) (IsMember rs)) (sym rows) groups);
}
  where
    was : (h k : Key) → members_of p h k → members_of old h k
    was h k m = subst (λ (rs : Rows). IsMember rs h k) rows m

    back : (h k : Key) → members_of old h k → members_of p h k
    back h k m = subst (λ (rs : Rows). IsMember rs h k) (sym rows) m

    one : (h k : Key) → members_of p h k → heads_of p k ≡ Some h
    one h k m =
        let apart : k ≢ key = removed_apart cs key k (groups.sound k k (h, was h k m, was h k m)).0 in
        loses k ∙ (λ i. cond (same_apart key k (λ e. apart (sym e)) i) None (heads_of old k)) ∙ is.one h k (was h k m)

-- all keys are those of the conductors
pub all_keys : (cs : Conductors) (old p : Partition) (all : BTreeSet Key) → HasKeys cs (heads_of old) → p.heads.entries ≡ old.heads.entries
    → ((q : Key) → Has all q ↔ IsSome (heads_of p q)) → (q : Key) → Has all q ↔ IsSome (get cs q)
all_keys cs old p all keys same has q =
    let are : is_some (heads_of p q) ≡ is_some (get cs q) = heads_kept old p same q ∙ keys q in
    ((λ h. sym are ∙ (has q).0 h), (λ h. (has q).1 (are ∙ h)))
