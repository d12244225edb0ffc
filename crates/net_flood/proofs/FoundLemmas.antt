-- What searches have found is moved into groups.
use Rattle.std.proofs.Common.{◌≡◌, ◌⊎◌, ◌∷◌, [], inl, inr, true, false, cond, arith, Contains, Option, IsSome, refl, sym, ap, subst, ◌∙◌}
use Rattle.std.specs.BTreeMap.{is_at}
use Rattle.std.specs.BTreeSet.{BTreeSet, contains}
use Rattle.std.proofs.lemmas.List.Elements.{Contains-append_cases, Contains-append_right, Contains-push_cases}
use Rattle.std.proofs.lemmas.Map.Views.{Contains-from_lookup, lookup-from_Contains}
use Rattle.geda_geom.specs.declared.conductor.Key.{Key}
use Rattle.geda_geom.specs.Keys.{by_key}
use Rattle.touch_index.proofs.MapLemmas.{same_key_equiv, same_key_exact}
use Rattle.net_flood.specs.declared.partition.Partition.{Partition}
use Rattle.net_flood.specs.steps.Found.{IsMovingFound}
use Rattle.net_flood.specs.steps.Partition.{Has, Heads, IsPartition, KeepsKeys, Puts, heads_of, members_of}
use Rattle.net_flood.specs.steps.Search.{AreUnique, IsFound, IsUnder, is_that}
use Rattle.net_flood.proofs.KeyLemmas.{same_or_apart}
use Rattle.net_flood.proofs.SearchLemmas.{is_found, under_one}
use Rattle.net_flood.proofs.SetLemmas.{lacks_not, not_lacks, update_apart, update_here}

none_paired : (x : Key × Key) → Contains [] x → ⊥
none_paired x c = let lt = c.1 in absurd (omega arith)

module _ (start : Option Key) (found : Heads) (left : BTreeSet Key) (old : Partition) where
  pub found_begins : AreUnique found → IsPartition (heads_of old) (members_of old) → IsMovingFound start found found left left old old
  found_begins unique is = record {
    keys = λ k. refl;
    partition = is;
    kept = λ h q m. m;
    put = λ h q u not. inl (Contains-from_lookup same_key_exact q h found u);
    later = λ h q m. inl m;
    heads = λ q never. refl;
    fewer = λ q h. h;
    gone = λ h q u not. inl (Contains-from_lookup same_key_exact q h found u);
    stays = λ q h never. h;
    still = λ h q c. lookup-from_Contains same_key_equiv q h found unique c;
  }

  -- the next one
  module _ (key head : Key) (rest after : Heads) (are : rest ≡ (key, head) ∷ after) (mid : BTreeSet Key) (now : Partition) (moving : IsMovingFound start found rest left mid old now) where
    pub key_under : IsUnder found head key
    key_under = moving.still head key (subst (λ es. Contains es (key, head)) (sym are) (0, omega arith, refl))

    rest_cases : (h q : Key) → Contains rest (q, h) → ((q ≡ key) × (h ≡ head)) ⊎ Contains after (q, h)
    rest_cases h q c = elim (Contains-append_cases ((key, head) ∷ []) after (q, h) (subst (λ es. Contains es (q, h)) are c)) [
      | inl b ↦ elim (Contains-push_cases [] (key, head) (q, h) b) [
        | inl n ↦ absurd (none_paired (q, h) n)
        | inr e ↦ inl (ap (λ x. x.0) (sym e), ap (λ x. x.1) (sym e))
      ]
      | inr b ↦ inr b
    ]

    after_rest : (h q : Key) → Contains after (q, h) → Contains rest (q, h)
    after_rest h q c = subst (λ es. Contains es (q, h)) (sym are) (Contains-append_right ((key, head) ∷ []) after (q, h) c)

    -- it stays
    pub found_past : is_that start head ≡ true → IsMovingFound start found after left mid old now
    found_past is = record {
      keys = moving.keys;
      partition = moving.partition;
      kept = moving.kept;
      put = λ h q u not. elim (moving.put h q u not) [
        | inl c ↦ elim (rest_cases h q c) [ inl e ↦ absurd (other h e.1 not) | inr b ↦ inl b ]
        | inr m ↦ inr m
      ];
      later = moving.later;
      heads = moving.heads;
      fewer = moving.fewer;
      gone = λ h q u not. elim (moving.gone h q u not) [
        | inl c ↦ elim (rest_cases h q c) [ inl e ↦ absurd (other h e.1 not) | inr b ↦ inl b ]
        | inr l ↦ inr l
      ];
      stays = moving.stays;
      still = λ h q c. moving.still h q (after_rest h q c);
    }
      where
        other : (h : Key) → h ≡ head → is_that start h ≡ false → ⊥
        other h e not = let p : true ≡ false = sym is ∙ ap (is_that start) (sym e) ∙ not in absurd (cc)

    -- it is moved
    module _ (own : (h q : Key) → IsUnder found h q → IsUnder found h h) (there : (q : Key) → IsFound found q → IsSome (heads_of old q)) (free : (h q : Key) → IsFound found q → ¬ (members_of old h q)) where
      head_under : IsUnder found head head
      head_under = own head key key_under

      pub head_known : IsSome (heads_of now head)
      head_known = moving.keys head ∙ there head (is_found found head head head_under)

      one_free : (q : Key) → IsUnder found head q → (h : Key) → members_of now h q → h ≡ head
      one_free q u h m = elim (moving.later h q m) [
        | inl o ↦ absurd (free h q (is_found found head q u) o)
        | inr p ↦ under_one found h head q p.0 u
      ]

      pub head_free : (h : Key) → members_of now h head → h ≡ head
      head_free = one_free head head_under

      module _ (one : Partition) (keeps : KeepsKeys now one) (puts : Puts head head now one) where
        pub key_known : IsSome (heads_of one key)
        key_known = keeps key ∙ moving.keys key ∙ there key (is_found found head key key_under)

        pub key_free : (h : Key) → members_of one h key → h ≡ head
        key_free h m = elim ((puts.adds h key).0 m) [ inl o ↦ one_free key key_under h o | inr both ↦ both.0 ]

        pub head_own : members_of one head head
        head_own = (puts.adds head head).1 (inr (refl, refl))

        pub found_more : (two : Partition) (less : BTreeSet Key) → is_that start head ≡ false → KeepsKeys one two → Puts head key one two
            → ((q : Key) → contains by_key less q ≡ cond (is_at (by_key key) q) false (contains by_key mid q)) → IsMovingFound start found after left less old two
        found_more two less not keeps2 puts2 updates = record {
          keys = λ k. keeps2 k ∙ keeps k ∙ moving.keys k;
          partition = puts2.partition;
          kept = λ h q m. more h q (moving.kept h q m);
          put = λ h q u is. elim (moving.put h q u is) [
            | inl c ↦ elim (rest_cases h q c) [ inl e ↦ inr ((puts2.adds h q).1 (inr (e.1, e.0))) | inr b ↦ inl b ]
            | inr m ↦ inr (more h q m)
          ];
          later = λ h q m. elim ((puts2.adds h q).0 m) [
            | inl a ↦ elim ((puts.adds h q).0 a) [
              | inl o ↦ moving.later h q o
              | inr both ↦ inr (under h q both.0 (subst (IsUnder found head) (sym both.1) head_under), apart h both.0)
            ]
            | inr both ↦ inr (under h q both.0 (subst (IsUnder found head) (sym both.1) key_under), apart h both.0)
          ];
          heads = λ q never. puts2.heads q (λ e. never (head, subst (IsUnder found head) (sym e) key_under, not))
              ∙ puts.heads q (λ e. never (head, subst (IsUnder found head) (sym e) head_under, not)) ∙ moving.heads q never;
          fewer = λ q h. moving.fewer q (was q h);
          gone = λ h q u is. elim (moving.gone h q u is) [
            | inl c ↦ elim (rest_cases h q c) [ inl e ↦ inr (update_here mid less key false updates q e.0) | inr b ↦ inl b ]
            | inr l ↦ inr (not_lacks less q (λ has. lacks_not mid q (was q has) l))
          ];
          stays = λ q h never. update_apart mid less key false updates q (λ e. never (head, subst (IsUnder found head) (sym e) key_under, not)) ∙ moving.stays q h never;
          still = λ h q c. moving.still h q (after_rest h q c);
        }
          where
            more : (h q : Key) → members_of now h q → members_of two h q
            more h q m = (puts2.adds h q).1 (inl ((puts.adds h q).1 (inl m)))

            under : (h q : Key) → h ≡ head → IsUnder found head q → IsUnder found h q
            under h q e u = subst (λ x. IsUnder found x q) (sym e) u

            apart : (h : Key) → h ≡ head → is_that start h ≡ false
            apart h e = ap (is_that start) e ∙ not

            was : (q : Key) → Has less q → Has mid q
            was q h = elim (same_or_apart q key) [
              | inl e ↦ absurd (lacks_not less q h (update_here mid less key false updates q e))
              | inr n ↦ sym (update_apart mid less key false updates q n) ∙ h
            ]
