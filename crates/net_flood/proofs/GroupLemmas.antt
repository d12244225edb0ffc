-- The groups of touching where a conductor comes, or goes.
use Rattle.std.proofs.Common.{◌≡◌, ◌≢◌, ◌⊎◌, ◌<◌, ◌≤◌, ◌+◌, [], ℕ, inl, inr, Bool, true, false, cond, List, length, take, get_or, Contains, Option, None, Some, IsSome, is_some, refl, sym, ap, subst, ◌∙◌}
use Rattle.std.specs.BTreeMap.{is_at}
use Rattle.std.specs.BTreeSet.{BTreeSet, contains}
use Rattle.std.specs.FinMap.{get, insert, remove}
use Rattle.std.specs.Option.{unwrap_or}
use Rattle.geda_geom.specs.declared.conductor.Key.{Key}
use Rattle.geda_geom.specs.declared.conductor.Conductor.{Conductor}
use Rattle.geda_geom.specs.Keys.{by_key}
use Rattle.touch_index.proofs.MapLemmas.{same_key_exact}
use Rattle.touch_index.specs.Index.{AreBeside, IsNeighbour, IsSpanning}
use Rattle.net_flood.specs.Grouping.{Conductors, InGroup, IsGroup}
use Rattle.net_flood.specs.declared.partition.Partition.{Partition}
use Rattle.net_flood.specs.steps.Found.{PutsFound}
use Rattle.net_flood.specs.steps.Partition.{AddsMember, Has, Heads, IsPartition, Joins, Lacks, Members, PutsLeft, TakesOut, Together, head_at, heads_of, members_of}
use Rattle.net_flood.specs.steps.Search.{AreUnder, AreUnique, IsFound, IsParted, IsReached, IsUnder, Searches, is_that}
use Rattle.net_flood.specs.steps.Kept.{AreGroups, HasKeys, IsBefore, IsJoining}
use Rattle.net_flood.proofs.ConductorLemmas.{get_inserted, get_removed, group_end, group_itself, group_once, group_trans, group_turn, near_alike, near_first, near_second, near_turn, removed_apart}
use Rattle.net_flood.proofs.CountLemmas.{few_beside}
use Rattle.net_flood.proofs.KeyLemmas.{same_here, same_or_apart}
use Rattle.net_flood.proofs.PartitionLemmas.{first_cases, none_in, together_trans, together_turn}
use Rattle.net_flood.proofs.RelationLemmas.{along, joined_map, joined_once, joined_trans}
use Rattle.net_flood.proofs.SearchLemmas.{head_of, head_or_none, is_found, under_none, under_one}
use Rattle.net_flood.proofs.SetLemmas.{has_or_lacks, lacks_not, not_lacks, update_apart, update_here}

-- what stands together with itself at the start of a chain does so with its end
module _ (cs : Conductors) (M : Members) (head : Key → Option Key) (is : IsPartition head M) where
  pub whole_from : ((k : Key) → IsSome (get cs k) → Together M k k) → ((k q : Key) → IsNeighbour (get cs) k q → Together M k q)
      → (k q : Key) → InGroup cs k q → Together M k q
  whole_from there links k q g = along (IsNeighbour (get cs)) (Together M k) (λ x y t n. together_trans head M is k x y t (links x y n)) k q (there k g.0) g.1

-- a conductor comes
module _ (cs : Conductors) (key : Key) (v : Conductor) (free : get cs key ≡ None) where
  there_apart : (k : Key) → IsSome (get cs k) → k ≢ key
  there_apart k there e = let p : false ≡ true = sym (ap is_some (ap (get cs) e ∙ free)) ∙ there in absurd (cc)

  near_more : (k q : Key) → IsNeighbour (get cs) k q → IsNeighbour (get (insert cs key v)) k q
  near_more k q n = near_alike (get cs) (get (insert cs key v)) k q
      (sym (get_inserted cs key v k (there_apart k (near_first (get cs) k q n)))) (sym (get_inserted cs key v q (there_apart q (near_second (get cs) k q n)))) n

  group_more : (k q : Key) → InGroup cs k q → InGroup (insert cs key v) k q
  group_more k q g = (
    ap is_some (get_inserted cs key v k (there_apart k g.0)) ∙ g.0,
    joined_map (IsNeighbour (get cs)) (IsNeighbour (get (insert cs key v))) near_more k q g.1,
  )

  pub before_joining : (M : Members) (head : Key → Option Key) → IsPartition head M → HasKeys cs head → AreGroups cs M → IsBefore (insert cs key v) key M
  before_joining M head is keys groups = record {
    alone = λ h m. let p : false ≡ true = sym (ap is_some free) ∙ sym (keys key) ∙ ap is_some (is.one h key m) in absurd (cc);
    there = λ k apart there. groups.whole k k (group_itself cs k (sym (ap is_some (get_inserted cs key v k apart)) ∙ there));
    sound = λ k q t. group_more k q (groups.sound k q t);
    links = λ k q first second n. groups.whole k q (group_once cs k q
        (near_alike (get (insert cs key v)) (get cs) k q (get_inserted cs key v k first) (get_inserted cs key v q second) n));
  }

module _ (cs : Conductors) (key : Key) where
  pub joining_begins : (M N : Members) (head : Key → Option Key) → IsPartition head M → IsSome (get cs key) → IsBefore cs key M → AddsMember key key M N → IsJoining cs key [] N
  joining_begins M N head is here before adds = record {
    there = λ k there. elim (same_or_apart k key) [
      | inl e ↦ (key, (adds key k).1 (inr (refl, e)), (adds key k).1 (inr (refl, e)))
      | inr other ↦ more k k (before.there k other there)
    ];
    sound = λ k q t. elim ((adds t.0 k).0 t.1) [
      | inl first ↦ elim ((adds t.0 q).0 t.2) [
        | inl second ↦ before.sound k q (t.0, first, second)
        | inr second ↦ absurd (before.alone key (is.own key k (subst (λ h. M h k) second.0 first)))
      ]
      | inr first ↦ elim ((adds t.0 q).0 t.2) [
        | inl second ↦ absurd (before.alone key (is.own key q (subst (λ h. M h q) first.0 second)))
        | inr second ↦ subst (InGroup cs k) (first.1 ∙ sym second.1) (group_itself cs k (ap (λ x. is_some (get cs x)) first.1 ∙ here))
      ]
    ];
    links = λ k q first second n. more k q (before.links k q first second n);
    joined = λ q c. absurd (none_in q c);
  }
    where
      more : (k q : Key) → Together M k q → Together N k q
      more k q t = (t.0, (adds t.0 k).1 (inl t.1), (adds t.0 q).1 (inl t.2))

  join_sound : (x : Key) (M N : Members) → IsNeighbour (get cs) key x → ((k q : Key) → Together M k q → InGroup cs k q) → (k q : Key)
      → Together M k q ⊎ ((Together M k key × Together M x q) ⊎ (Together M k x × Together M key q)) → InGroup cs k q
  join_sound x M N link sound k q either = elim either [
    | inl o ↦ sound k q o
    | inr two ↦ elim two [
      | inl both ↦ group_trans cs k key q (sound k key both.0) (group_trans cs key x q (group_once cs key x link) (sound x q both.1))
      | inr both ↦ group_trans cs k x q (sound k x both.0) (group_trans cs x key q (group_once cs x key (near_turn (get cs) key x link)) (sound key q both.1))
    ]
  ]

  pub joining_more : (near : List Key) (i : ℕ) (d : Key) (old new : Partition) → i < length near → IsNeighbour (get cs) key (get_or near i d)
      → IsJoining cs key (take i near) (members_of old) → Joins key (get_or near i d) old new → IsJoining cs key (take (i + 1) near) (members_of new)
  joining_more near i d old new inside link joining joins = record {
    there = λ k there. joins.kept k k (joining.there k there);
    sound = λ k q t. join_sound (get_or near i d) (members_of old) (members_of new) link joining.sound k q (joins.sound k q t);
    links = λ k q first second n. joins.kept k q (joining.links k q first second n);
    joined = λ q c. elim (first_cases near i d inside q c) [
      | inl b ↦ joins.kept key q (joining.joined q b)
      | inr e ↦ subst (Together (members_of new) key) (sym e) joins.joined
    ];
  }

  pub joining_ends : (near : List Key) (M : Members) (head : Key → Option Key) → IsPartition head M → IsSpanning (get cs) key near
      → IsJoining cs key near M → AreGroups cs M
  joining_ends near M head is all joining = record { sound = joining.sound; whole = whole_from cs M head is joining.there links }
    where
      -- a chain without the key leads to each neighbour from one that is joined
      joined : (q : Key) → IsNeighbour (get cs) key q → Together M key q
      joined q n =
          let from = all.all q n in
          along (AreBeside (get cs) key) (Together M key)
          (λ x y t link. together_trans head M is key x y t (joining.links x y link.first_apart link.second_apart link.near))
          from.0 q (joining.joined from.0 from.1) from.2

      links : (k q : Key) → IsNeighbour (get cs) k q → Together M k q
      links k q n = elim (same_or_apart k key) [
        | inl e ↦ subst (λ x. Together M x q) (sym e) (joined q (subst (λ x. IsNeighbour (get cs) x q) e n))
        | inr first ↦ elim (same_or_apart q key) [
          | inl e ↦ subst (Together M k) (sym e) (together_turn M key k
              (joined k (subst (λ x. IsNeighbour (get cs) x k) e (near_turn (get cs) k q n))))
          | inr second ↦ joining.links k q first second n
        ]
      ]

-- who is there stands with itself
pub together_there : (cs : Conductors) (M : Members) (key : Key) → AreGroups cs M → IsSome (get cs key) → Together M key key
together_there cs M key groups there = groups.whole key key (group_itself cs key there)

-- a key that was found is with those that searches began at, or is parted
abbrev pub IsMet : Conductors → Option Key → Key → Type 0
IsMet cs start x = (s : Key) × (start ≡ Some s) × InGroup cs s x

that_apart : (start : Option Key) (h : Key) → start ≡ Some h → is_that start h ≡ false → ⊥
that_apart None h e not = let p : None ≡ Some h = e in absurd (cc)
that_apart (Some x) h e not = let p : true ≡ false = sym (same_here x h (ap (λ o. unwrap_or o x) e)) ∙ not in absurd (cc)

that_some : (start : Option Key) (h : Key) → is_that start h ≡ true → start ≡ Some h
that_some None h is = absurd (cc)
that_some (Some x) h is = ap Some (same_key_exact x h is)

that_or : (start : Option Key) (h : Key) → (start ≡ Some h) ⊎ (is_that start h ≡ false)
that_or start h = go (is_that start h) refl
  where
    go : (t : Bool) → is_that start h ≡ t → (start ≡ Some h) ⊎ (is_that start h ≡ false)
    go true e = inl (that_some start h e)
    go false e = inr e

-- what was found is parted, or not
parted_or : (start : Option Key) (found : Heads) (q : Key) → IsParted start found q ⊎ (IsParted start found q → ⊥)
parted_or start found q = elim (head_or_none (head_at found q)) [
  | inl at ↦ elim (that_or start at.0) [
    | inl e ↦ inr (λ p. that_apart start at.0 e (subst (λ x. is_that start x ≡ false) (under_one found p.0 at.0 q p.1 at.1) p.2))
    | inr e ↦ inl (at.0, at.1, e)
  ]
  | inr none ↦ inr (λ p. under_none found p.0 q none p.1)
]

module _ (cs : Conductors) (near : List Key) (start : Option Key) (found : Heads) (searches : Searches cs near start found) where
  found_or : (q : Key) → IsFound found q → IsMet cs start q ⊎ IsParted start found q
  found_or q f =
      let at = head_of (head_at found q) f in
      elim (that_or start at.0) [
        | inl e ↦ inl (at.0, e, searches.placed.sound at.0 q at.1)
        | inr e ↦ inr (at.0, at.1, e)
      ]

  -- who touches what is parted is with it
  parted_near : (k q : Key) → IsNeighbour (get cs) k q → (p : IsParted start found k) → IsUnder found p.0 q
  parted_near k q n p = elim (searches.linked k q n (is_found found p.0 k p.1)) [
    | inl e ↦ absurd (that_apart start p.0 (sym e ∙ p.1) p.2)
    | inr t ↦ subst (λ x. IsUnder found x q) (under_one found t.0 p.0 k t.1 p.1) t.2
  ]

-- a conductor goes
module _ (cs : Conductors) (key : Key) (old : Partition) (is : IsPartition (heads_of old) (members_of old)) (groups : AreGroups cs (members_of old)) where
  near_less : (k q : Key) → k ≢ key → q ≢ key → IsNeighbour (get cs) k q → IsNeighbour (get (remove cs key)) k q
  near_less k q first second n = near_alike (get cs) (get (remove cs key)) k q (sym (get_removed cs key k first)) (sym (get_removed cs key q second)) n

  near_back : (k q : Key) → IsNeighbour (get (remove cs key)) k q → IsNeighbour (get cs) k q
  near_back k q n = near_alike (get (remove cs key)) (get cs) k q
      (get_removed cs key k (removed_apart cs key k (near_first (get (remove cs key)) k q n))) (get_removed cs key q (removed_apart cs key q (near_second (get (remove cs key)) k q n))) n

  there_more : (q : Key) → IsSome (get (remove cs key) q) → IsSome (get cs q)
  there_more q there = sym (ap is_some (get_removed cs key q (removed_apart cs key q there))) ∙ there

  module _ (near : List Key) (all : IsSpanning (get cs) key near) where
    pub near_there : (q : Key) → Contains near q → IsSome (get (remove cs key) q)
    near_there q c =
        let n = all.near q c in
        ap is_some (get_removed cs key q (λ e. n.apart e)) ∙ near_second (get cs) key q n

    -- what is reached is in the group
    pub reached_with : (q : Key) → IsReached (remove cs key) near q → InGroup cs key q
    reached_with q r = (
      near_first (get cs) key r.0 (all.near r.0 r.1),
      joined_trans (IsNeighbour (get cs)) key r.0 q (joined_once (IsNeighbour (get cs)) key r.0 (all.near r.0 r.1))
          (joined_map (IsNeighbour (get (remove cs key))) (IsNeighbour (get cs)) near_back r.0 q r.2.1),
    )

    pub reached_apart : (q : Key) → IsReached (remove cs key) near q → q ≢ key
    reached_apart q r = removed_apart cs key q (group_end (remove cs key) r.0 q r.2)

    pub found_count : (found : Heads) (keys : List Key) → AreUnique found → ((q : Key) → IsFound found q → IsReached (remove cs key) near q) → IsGroup cs key keys → IsSome (get cs key)
        → length found + 1 ≤ length keys
    found_count found keys unique reached group there = few_beside found key keys unique ((group.same key).1 (group_itself cs key there))
        (λ q f. (group.same q).1 (reached_with q (reached q f))) (λ q f. reached_apart q (reached q f))

  module _ (row others : BTreeSet Key) (mid : Partition) (out : TakesOut key row old mid)
      (updates : (q : Key) → contains by_key others q ≡ cond (is_at (by_key key) q) false (contains by_key row q)) (same : (q : Key) → heads_of mid q ≡ heads_of old q) where
    other_apart : (q : Key) → Has others q → q ≢ key
    other_apart q h e = lacks_not others q h (update_here row others key false updates q e)

    other_with_key : (q : Key) → Has others q → Together (members_of old) key q
    other_with_key q h = (out.same q).0 (sym (update_apart row others key false updates q (other_apart q h)) ∙ h)

    others_have : (q : Key) → InGroup cs key q → q ≢ key → Has others q
    others_have q g apart = update_apart row others key false updates q apart ∙ (out.same q).1 (groups.whole key q g)

    others_free : (h q : Key) → members_of mid h q → Lacks others q
    others_free h q m = not_lacks others q (λ has. ((out.rest h q).0 m).1 (other_with_key q has))

    -- all in the group of the key have its head
    others_alike : (head : Key) → heads_of old key ≡ Some head → (q : Key) → Has others q → heads_of mid q ≡ Some head
    others_alike head at q h =
        let t = other_with_key q h in
        same q ∙ is.one t.0 q t.2 ∙ sym (is.one t.0 key t.1) ∙ at

    -- a chain that begins in another group does not meet the key
    stays_in : (k q : Key) → Together (members_of old) k q → ¬ (Together (members_of old) key k) → InGroup (remove cs key) k q
    stays_in k q t never = (along (IsNeighbour (get cs)) (λ x. InGroup cs k x × InGroup (remove cs key) k x)
        (λ x y p n.
        let after = group_trans cs k x y p.0 (group_once cs x y n) in
        (after, group_trans (remove cs key) k x y p.1 (group_once (remove cs key) x y (near_less x y (clear x p.0) (clear y after) n))))
        k q (start, started) chain.1).1
      where
        chain : InGroup cs k q
        chain = groups.sound k q t

        clear : (x : Key) → InGroup cs k x → x ≢ key
        clear x g e = never (together_turn (members_of old) k key (groups.whole k key (subst (InGroup cs k) e g)))

        start : InGroup cs k k
        start = group_itself cs k chain.0

        started : InGroup (remove cs key) k k
        started = group_itself (remove cs key) k (ap is_some (get_removed cs key k (clear k start)) ∙ chain.0)

    together_mid : (k q : Key) → Together (members_of old) k q → ¬ (Together (members_of old) key k) → Together (members_of mid) k q
    together_mid k q t never = (
      t.0,
      (out.rest t.0 k).1 (t.1, never),
      (out.rest t.0 q).1 (t.2, (λ u. never (together_trans (heads_of old) (members_of old) is key q k u (together_turn (members_of old) k q t)))),
    )

    mid_sound : (h k q : Key) → members_of mid h k → members_of mid h q → InGroup (remove cs key) k q
    mid_sound h k q first second =
        let one = (out.rest h k).0 first in
        let two = (out.rest h q).0 second in
        stays_in k q (h, one.0, two.0) one.1

    -- searches have found some of the others
    module _ (near : List Key) (all : IsSpanning (get cs) key near) (start : Option Key) (found : Heads) (reached : (q : Key) → IsFound found q → IsReached (remove cs key) near q)
        (searches : Searches (remove cs key) near start found) where
      found_other : (q : Key) → IsFound found q → Has others q
      found_other q f = others_have q (reached_with near all q (reached q f)) (reached_apart near all q (reached q f))

      pub found_free : (h q : Key) → IsFound found q → ¬ (members_of mid h q)
      found_free h q f m = lacks_not others q (found_other q f) (others_free h q m)

      pub found_there : (q : Key) → IsFound found q → IsSome (heads_of mid q)
      found_there q f = let t = other_with_key q (found_other q f) in ap is_some (same q ∙ is.one t.0 q t.2)

      abbrev Meets : Key → Type 0
      Meets x = IsMet (remove cs key) start x ⊎ IsParted start found x

      meets_next : (x y : Key) → IsNeighbour (get (remove cs key)) x y → Meets x → Meets y
      meets_next x y n either = elim either [
        | inl m ↦ inl (m.0, m.1, group_trans (remove cs key) m.0 x y m.2 (group_once (remove cs key) x y n))
        | inr p ↦ inr (p.0, parted_near (remove cs key) near start found searches x y n p, p.2)
      ]

      -- a chain without the key leads to each neighbour from one that was found
      near_meets : (y : Key) → IsNeighbour (get cs) key y → Meets y
      near_meets y n =
          let from = all.all y n in
          along (AreBeside (get cs) key) Meets (λ x z either link. meets_next x z (near_less x z link.first_apart link.second_apart link.near) either)
          from.0 y (found_or (remove cs key) near start found searches from.0 (searches.starts from.0 from.1)) from.2

      all_meet : (x : Key) → InGroup cs key x → (x ≡ key) ⊎ Meets x
      all_meet x g = along (IsNeighbour (get cs)) (λ z. (z ≡ key) ⊎ Meets z) step key x (inl refl) g.1
        where
          step : (a b : Key) → (a ≡ key) ⊎ Meets a → IsNeighbour (get cs) a b → (b ≡ key) ⊎ Meets b
          step a b h n = elim (same_or_apart b key) [
            | inl e ↦ inl e
            | inr second ↦ elim (same_or_apart a key) [
              | inl e ↦ inr (near_meets b (subst (λ z. IsNeighbour (get cs) z b) e n))
              | inr first ↦ elim h [ inl e ↦ absurd (first e) | inr m ↦ inr (meets_next a b (near_less a b first second n) m) ]
            ]
          ]

      -- they are moved, but for those that are with the start
      module _ (left : BTreeSet Key) (moved : Partition) (puts : PutsFound start found others left mid moved) where
        left_other : (q : Key) → Has left q → Has others q
        left_other q h = puts.fewer q h

        left_apart : (q : Key) → Has left q → IsParted start found q → ⊥
        left_apart q h p = lacks_not left q h (puts.gone q p)

        left_met : (q : Key) → Has left q → IsMet (remove cs key) start q
        left_met q h =
            let t = other_with_key q (left_other q h) in
            elim (all_meet q (groups.sound key q t)) [
              | inl e ↦ absurd (other_apart q (left_other q h) e)
              | inr m ↦ elim m [ inl s ↦ s | inr p ↦ absurd (left_apart q h p) ]
            ]

        pub left_alike : (head : Key) → heads_of old key ≡ Some head → (q : Key) → Has left q → heads_of moved q ≡ Some head
        left_alike head at q h = puts.heads q (left_apart q h) ∙ others_alike head at q (left_other q h)

        pub left_free : (h q : Key) → members_of moved h q → Lacks left q
        left_free h q m = elim (puts.later h q m) [
          | inl o ↦ not_lacks left q (λ has. lacks_not others q (left_other q has) (others_free h q o))
          | inr p ↦ puts.gone q (h, p.0, p.1)
        ]

        never_both : (h k q : Key) → members_of mid h k → IsUnder found h q → ⊥
        never_both h k q m u =
            let own = out.partition.own h k m in
            found_free h h (is_found found h h (searches.placed.own h q u)) own

        moved_sound : (k q : Key) → Together (members_of moved) k q → InGroup (remove cs key) k q
        moved_sound k q t = elim (puts.later t.0 k t.1) [
          | inl first ↦ elim (puts.later t.0 q t.2) [
            | inl second ↦ mid_sound t.0 k q first second
            | inr second ↦ absurd (never_both t.0 k q first second.0)
          ]
          | inr first ↦ elim (puts.later t.0 q t.2) [
            | inl second ↦ absurd (never_both t.0 q k second first.0)
            | inr second ↦ group_trans (remove cs key) k t.0 q (group_turn (remove cs key) t.0 k (searches.placed.sound t.0 k first.0)) (searches.placed.sound t.0 q second.0)
          ]
        ]

        -- and those make one group with what was not found
        module _ (new : Partition) (last : IsPartition (heads_of new) (members_of new)) (rest : PutsLeft left (members_of moved) (members_of new)) where
          sound_without : (k q : Key) → Together (members_of new) k q → InGroup (remove cs key) k q
          sound_without k q t = elim (rest.sound k q t) [
            | inl o ↦ moved_sound k q o
            | inr both ↦
                let one = left_met k both.0 in
                let two = left_met q both.1 in
                let same_start : two.0 ≡ one.0 = ap (λ o. unwrap_or o two.0) (sym two.1 ∙ one.1) in
                group_trans (remove cs key) k one.0 q (group_turn (remove cs key) one.0 k one.2) (subst (λ x. InGroup (remove cs key) x q) same_start two.2)
          ]

          parted_new : (h k q : Key) → is_that start h ≡ false → IsUnder found h k → IsUnder found h q → Together (members_of new) k q
          parted_new h k q not one two = rest.kept k q (h, puts.put h k one not, puts.put h q two not)

          mid_new : (k q : Key) → Together (members_of mid) k q → Together (members_of new) k q
          mid_new k q t = rest.kept k q (t.0, puts.kept t.0 k t.1, puts.kept t.0 q t.2)

          other_new : (k q : Key) → Together (members_of old) k q → Lacks row k → Together (members_of new) k q
          other_new k q t l = mid_new k q (together_mid k q t (λ u. lacks_not row k ((out.same k).1 u) l))

          row_group : (k : Key) → Has row k → InGroup cs key k
          row_group k h = groups.sound key k ((out.same k).0 h)

          there_without : (k : Key) → IsSome (get (remove cs key) k) → Together (members_of new) k k
          there_without k there = elim (has_or_lacks row k) [
            | inl h ↦ elim (parted_or start found k) [
              | inl p ↦ parted_new p.0 k k p.2 p.1 p.1
              | inr never ↦
                  let has = puts.stays k (others_have k (row_group k h) (removed_apart cs key k there)) never in
                  rest.rest k k has has
            ]
            | inr l ↦ other_new k k (groups.whole k k (group_itself cs k (there_more k there))) l
          ]

          links_without : (k q : Key) → IsNeighbour (get (remove cs key)) k q → Together (members_of new) k q
          links_without k q n = elim (has_or_lacks row k) [
            | inl h ↦ elim (parted_or start found k) [
              | inl p ↦ parted_new p.0 k q p.2 p.1 (parted_near (remove cs key) near start found searches k q n p)
              | inr never ↦
                  let back = near_turn (get (remove cs key)) k q n in
                  let apart = λ (p : IsParted start found q). never (p.0, parted_near (remove cs key) near start found searches q k back p, p.2) in
                  let with = group_trans cs key k q (row_group k h) (group_once cs k q (near_back k q n)) in
                  rest.rest k q
                  (puts.stays k (others_have k (row_group k h) (removed_apart cs key k (near_first (get (remove cs key)) k q n))) never)
                  (puts.stays q (others_have q with (removed_apart cs key q (near_second (get (remove cs key)) k q n))) apart)
            ]
            | inr l ↦ other_new k q (groups.whole k q (group_once cs k q (near_back k q n))) l
          ]

          pub groups_without : AreGroups (remove cs key) (members_of new)
          groups_without = record { sound = sound_without; whole = whole_from (remove cs key) (members_of new) (heads_of new) last there_without links_without }

-- all conductors are grouped
pub groups_anew : (cs : Conductors) (near : List Key) (start : Option Key) (found : Heads) (left after : BTreeSet Key) (old new : Partition) → ((q : Key) → IsSome (get cs q) → Contains near q) → ((h q : Key) → members_of old h q → ⊥)
    → Searches cs near start found → PutsFound None found left after old new → AreGroups cs (members_of new)
groups_anew cs near start found left after old new every empty searches puts = record {
  sound = λ k q t. elim (puts.later t.0 k t.1) [
    | inl m ↦ absurd (empty t.0 k m)
    | inr one ↦ elim (puts.later t.0 q t.2) [
      | inl m ↦ absurd (empty t.0 q m)
      | inr two ↦ group_trans cs k t.0 q (group_turn cs t.0 k (searches.placed.sound t.0 k one.0)) (searches.placed.sound t.0 q two.0)
    ]
  ];
  whole = whole_from cs (members_of new) (heads_of new) puts.partition
      (λ k there. let at = head_of (head_at found k) (searches.starts k (every k there)) in (at.0, puts.put at.0 k at.1 refl, puts.put at.0 k at.1 refl))
      links;
}
  where
    put : (k q : Key) → AreUnder found k q → Together (members_of new) k q
    put k q t = (t.0, puts.put t.0 k t.1 refl, puts.put t.0 q t.2 refl)

    links : (k q : Key) → IsNeighbour (get cs) k q → Together (members_of new) k q
    links k q n =
        let at = head_of (head_at found k) (searches.starts k (every k (near_first (get cs) k q n))) in
        let to = head_of (head_at found q) (searches.starts q (every q (near_second (get cs) k q n))) in
        elim (searches.linked k q n (is_found found at.0 k at.1)) [
          | inl e ↦ elim (searches.linked q k (near_turn (get cs) k q n) (is_found found to.0 q to.1)) [
            | inl f ↦ put k q (at.0, at.1, f ∙ sym e ∙ at.1)
            | inr t ↦ together_turn (members_of new) q k (put q k t)
          ]
          | inr t ↦ put k q t
        ]
