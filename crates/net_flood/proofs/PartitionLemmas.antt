-- Members under heads, and who stands together.
use Rattle.std.proofs.Common.{◌≡◌, ◌≢◌, ◌⊎◌, ◌↔◌, ◌<◌, ◌+◌, ◌++◌, ◌∷◌, [], ℕ, List, length, take, get_or, inl, inr, cond, arith, Contains, Option, Some, None, IsSome, is_some, refl, sym, ap, subst, ◌∙◌}
use Rattle.std.specs.Option.{unwrap_or}
use Rattle.geda_geom.specs.declared.conductor.Key.{Key}
use Rattle.touch_index.specs.steps.Sifting.{is_same_key}
use Rattle.std.specs.BTreeSet.{BTreeSet}
use Rattle.std.proofs.lemmas.List.{take_more}
use Rattle.std.proofs.lemmas.List.Elements.{Contains-append_left, Contains-push, Contains-push_cases}
use Rattle.net_flood.specs.declared.partition.Partition.{Partition}
use Rattle.net_flood.specs.steps.Partition.{AddsAll, AddsMember, IsIn, IsMember, IsPartition, IsPutting, Has, Joins, KeepsKeys, Lacks, Puts, PutsLeft, PutsSet, Members, MovesTo, Rows, TakesOut, Together, head_at, heads_of, members_of, row_at}
use Rattle.net_flood.proofs.KeyLemmas.{same_apart, same_here, same_or_apart}
use Rattle.net_flood.proofs.SetLemmas.{has_contains, lacks_not}

one_head : (o : Option Key) (h g : Key) → o ≡ Some h → o ≡ Some g → h ≡ g
one_head o h g first second = ap (λ x. unwrap_or x h) (sym first ∙ second)

module _ (head : Key → Option Key) (M : Members) (is : IsPartition head M) where
  pub heads_same : (h g k : Key) → M h k → M g k → h ≡ g
  heads_same h g k first second = one_head (head k) h g (is.one h k first) (is.one g k second)

  pub together_trans : (k q r : Key) → Together M k q → Together M q r → Together M k r
  together_trans k q r a b = (a.0, a.1, subst (λ h. M h r) (heads_same b.0 a.0 q b.1 a.2) b.2)

pub together_turn : (M : Members) (k q : Key) → Together M k q → Together M q k
together_turn M k q t = (t.0, t.2, t.1)

-- a key that has a head gets another one
pub keys_set : (head new : Key → Option Key) (k h : Key) → IsSome (head k) → ((q : Key) → new q ≡ cond (is_same_key k q) (Some h) (head q)) → (q : Key) → is_some (new q) ≡ is_some (head q)
keys_set head new k h there sets q = elim (same_or_apart q k) [
  | inl e ↦ ap is_some (sets q ∙ (λ i. cond (same_here k q (sym e) i) (Some h) (head q))) ∙ sym there ∙ ap (λ x. is_some (head x)) (sym e)
  | inr other ↦ ap is_some (sets q ∙ (λ i. cond (same_apart k q (λ e. other (sym e)) i) (Some h) (head q)))
]

-- the other keys keep their heads
pub heads_set : (head new : Key → Option Key) (k h : Key) → ((q : Key) → new q ≡ cond (is_same_key k q) (Some h) (head q)) → (q : Key) → ¬ (q ≡ k) → new q ≡ head q
heads_set head new k h sets q apart = sets q ∙ (λ i. cond (same_apart k q (λ e. apart (sym e)) i) (Some h) (head q))

-- a key that was in no other group is in one
module _ (head new : Key → Option Key) (M N : Members) (h k : Key) where
  pub put_partition : IsPartition head M → ((i : Key) → M i k → i ≡ h) → (h ≢ k → M h h)
      → AddsMember h k M N → ((q : Key) → new q ≡ cond (is_same_key k q) (Some h) (head q)) → IsPartition new N
  put_partition is free own adds sets = record { one = one; own = owns }
    where
      here : (q : Key) → q ≡ k → new q ≡ Some h
      here q e = sets q ∙ (λ i. cond (same_here k q (sym e) i) (Some h) (head q))

      apart : (q : Key) → q ≢ k → new q ≡ head q
      apart q n = sets q ∙ (λ i. cond (same_apart k q (λ e. n (sym e)) i) (Some h) (head q))

      one : (i q : Key) → N i q → new q ≡ Some i
      one i q n = elim ((adds i q).0 n) [
        | inl m ↦ elim (same_or_apart q k) [
          | inl e ↦ here q e ∙ ap Some (sym (free i (subst (M i) e m)))
          | inr other ↦ apart q other ∙ is.one i q m
        ]
        | inr both ↦ here q both.1 ∙ ap Some (sym both.0)
      ]

      owner : N h h
      owner = elim (same_or_apart h k) [
        | inl e ↦ (adds h h).1 (inr (refl, e))
        | inr other ↦ (adds h h).1 (inl (own other))
      ]

      owns : (i q : Key) → N i q → N i i
      owns i q n = elim ((adds i q).0 n) [
        | inl m ↦ (adds i i).1 (inl (is.own i q m))
        | inr both ↦ subst (λ x. N x x) (sym both.0) owner
      ]

-- who stands together where all members under one head are under another one
module _ (M N : Members) (from to : Key) (moves : MovesTo from to M N) where
  pub moves_keep : (k q : Key) → Together M k q → Together N k q
  moves_keep k q t = elim (same_or_apart t.0 from) [
    | inl e ↦ (to, (moves to k).1 (inr (refl, subst (λ x. M x k) e t.1)), (moves to q).1 (inr (refl, subst (λ x. M x q) e t.2)))
    | inr other ↦ (t.0, (moves t.0 k).1 (inl (t.1, other)), (moves t.0 q).1 (inl (t.2, other)))
  ]

  pub moves_join : (k q : Key) → M from k → M to q → to ≢ from → Together N k q
  moves_join k q first second apart = (to, (moves to k).1 (inr (refl, first)), (moves to q).1 (inl (second, apart)))

  pub moves_sound : (a b : Key) → M from a → M to b → (k q : Key) → Together N k q
      → Together M k q ⊎ ((Together M k a × Together M b q) ⊎ (Together M k b × Together M a q))
  moves_sound a b at_from at_to k q t = elim ((moves t.0 k).0 t.1) [
    | inl first ↦ elim ((moves t.0 q).0 t.2) [
      | inl second ↦ inl (t.0, first.0, second.0)
      | inr second ↦
          let to_k : M to k = subst (λ x. M x k) second.0 first.0 in
          inr (inr ((to, to_k, at_to), (from, at_from, second.1)))
    ]
    | inr first ↦ elim ((moves t.0 q).0 t.2) [
      | inl second ↦
          let to_q : M to q = subst (λ x. M x q) first.0 second.0 in
          inr (inl ((from, first.1, at_from), (to, at_to, to_q)))
      | inr second ↦ inl (from, first.1, second.1)
    ]
  ]

-- which is first of the two does not matter
turn_sound : (M : Members) (a b k q : Key) → Together M k q ⊎ ((Together M k b × Together M a q) ⊎ (Together M k a × Together M b q))
    → Together M k q ⊎ ((Together M k a × Together M b q) ⊎ (Together M k b × Together M a q))
turn_sound M a b k q h = elim h [
  | inl t ↦ inl t
  | inr both ↦ elim both [ inl x ↦ inr (inr x) | inr x ↦ inr (inl x) ]
]

-- the groups of two keys are one
pub joins_by_move : (a b from to x y : Key) (old new : Partition) → IsPartition (heads_of new) (members_of new) → MovesTo from to (members_of old) (members_of new)
    → members_of old from x → members_of old to y → to ≢ from → ((x ≡ a) × (y ≡ b)) ⊎ ((x ≡ b) × (y ≡ a)) → Joins a b old new
joins_by_move a b from to x y old new is moves at_x at_y apart which = record {
  partition = is;
  kept = moves_keep M N from to moves;
  joined = elim which [
    | inl e ↦ subst (λ k. Together N k b) e.0 (subst (λ q. Together N x q) e.1 one)
    | inr e ↦ subst (λ k. Together N k b) e.1 (subst (λ q. Together N y q) e.0 (together_turn N x y one))
  ];
  sound = λ k q t.
      let h = moves_sound M N from to moves x y at_x at_y k q t in
      elim which [
        | inl e ↦ subst (λ i. Together M k q ⊎ ((Together M k i × Together M b q) ⊎ (Together M k b × Together M i q))) e.0
            (subst (λ j. Together M k q ⊎ ((Together M k x × Together M j q) ⊎ (Together M k j × Together M x q))) e.1 h)
        | inr e ↦ turn_sound M a b k q (subst (λ i. Together M k q ⊎ ((Together M k i × Together M a q) ⊎ (Together M k a × Together M i q))) e.0
            (subst (λ j. Together M k q ⊎ ((Together M k x × Together M j q) ⊎ (Together M k j × Together M x q))) e.1 h))
      ];
}
  where
    M : Members
    M = members_of old

    N : Members
    N = members_of new

    one : Together N x y
    one = moves_join M N from to moves x y at_x at_y apart

-- nothing changes where they stand together already
pub joins_itself : (a b : Key) (p : Partition) → IsPartition (heads_of p) (members_of p) → Together (members_of p) a b → Joins a b p p
joins_itself a b p is t = record { partition = is; kept = λ k q h. h; joined = t; sound = λ k q h. inl h }

-- who is a member where the row under one head is replaced
pub adds_member : (old new : Rows) (head key : Key) (o : Option (BTreeSet Key)) (row : BTreeSet Key) → row_at old head ≡ o
    → ((q : Key) → row_at new q ≡ cond (is_same_key head q) (Some row) (row_at old q)) → ((q : Key) → Has row q ↔ (IsIn o q ⊎ (q ≡ key)))
    → AddsMember head key (IsMember old) (IsMember new)
adds_member old new head key o row was updates more i q = elim (same_or_apart i head) [
  | inl e ↦
      let here : row_at new i ≡ Some row = updates i ∙ (λ j. cond (same_here head i (sym e) j) (Some row) (row_at old i)) in
      let before : row_at old i ≡ o = ap (row_at old) e ∙ was in (
        (λ m. elim ((more q).0 (subst (λ x. IsIn x q) here m)) [ inl h ↦ inl (subst (λ x. IsIn x q) (sym before) h) | inr s ↦ inr (e, s) ]),
        (λ m. subst (λ x. IsIn x q) (sym here) ((more q).1 (elim m [ inl h ↦ inl (subst (λ x. IsIn x q) before h) | inr s ↦ inr s.1 ]))),
      )
  | inr other ↦
      let here : row_at new i ≡ row_at old i = updates i ∙ (λ j. cond (same_apart head i (λ s. other (sym s)) j) (Some row) (row_at old i)) in (
        (λ m. inl (subst (λ x. IsIn x q) here m)),
        (λ m. elim m [ inl h ↦ subst (λ x. IsIn x q) (sym here) h | inr s ↦ absurd (other s.0) ]),
      )
]

-- a member's head has a row, in which it is
pub row_of_member : (rows : Rows) (h k : Key) → IsMember rows h k → IsSome (row_at rows h)
row_of_member rows h k m = go (row_at rows h) m
  where
    go : (o : Option (BTreeSet Key)) → IsIn o k → IsSome o
    go None i = absurd i
    go (Some row) i = refl

module _ (p : Partition) (is : IsPartition (heads_of p) (members_of p)) (key : Key) (there : Together (members_of p) key key) where
  pub head_of_there : heads_of p key ≡ Some there.0
  head_of_there = is.one there.0 key there.1

  pub has_head : IsSome (heads_of p key)
  has_head = subst IsSome (sym head_of_there) refl

  module _ (head : Key) (is_head : heads_of p key ≡ Some head) where
    same_head : there.0 ≡ head
    same_head = one_head (heads_of p key) there.0 head head_of_there is_head

    pub key_in : members_of p head key
    key_in = subst (λ h. members_of p h key) same_head there.1

    pub has_row : IsSome (row_at p.rows.entries head)
    has_row = row_of_member p.rows.entries head key key_in

    module _ (row : BTreeSet Key) (is_row : row_at p.rows.entries head ≡ Some row) where
      -- the row has who stands together with the key
      pub row_same : (q : Key) → Has row q ↔ Together (members_of p) key q
      row_same q = (
        (λ h. (head, key_in, subst (λ o. IsIn o q) (sym is_row) h)),
        (λ t. subst (λ o. IsIn o q) is_row (subst (λ h. members_of p h q) (one_head (heads_of p key) t.0 head (is.one t.0 key t.1) is_head) t.2)),
      )

      pub takes_out : (new : Partition) → new.heads.entries ≡ p.heads.entries
          → ((q : Key) → row_at new.rows.entries q ≡ cond (is_same_key head q) None (row_at p.rows.entries q)) → TakesOut key row p new
      takes_out new same updates = record {
        partition = record {
          one = λ h k m. ap (λ es. head_at es k) same ∙ is.one h k (was h k m);
          own = λ h k m. now h h (is.own h k (was h k m)) (apart h k m);
        };
        same = row_same;
        rest = λ h q. (
          (λ m. (was h q m, λ t. apart h q m (sym (heads_same (heads_of p) (members_of p) is t.0 h q t.2 (was h q m)) ∙ one_head (heads_of p key) t.0 head (is.one t.0 key t.1) is_head))),
          (λ m. now h q m.0 (λ e. m.1 (head, key_in, subst (λ x. members_of p x q) e m.0))),
        );
      }
        where
          none : (h : Key) → h ≡ head → row_at new.rows.entries h ≡ None
          none h e = updates h ∙ (λ j. cond (same_here head h (sym e) j) None (row_at p.rows.entries h))

          kept : (h : Key) → h ≢ head → row_at new.rows.entries h ≡ row_at p.rows.entries h
          kept h n = updates h ∙ (λ j. cond (same_apart head h (λ e. n (sym e)) j) None (row_at p.rows.entries h))

          apart : (h k : Key) → members_of new h k → h ≢ head
          apart h k m e = subst (λ o. IsIn o k) (none h e) m

          was : (h k : Key) → members_of new h k → members_of p h k
          was h k m = subst (λ o. IsIn o k) (kept h (apart h k m)) m

          now : (h k : Key) → members_of p h k → h ≢ head → members_of new h k
          now h k m n = subst (λ o. IsIn o k) (sym (kept h n)) m

keeps_after : (old mid new : Partition) → KeepsKeys old mid → KeepsKeys mid new → KeepsKeys old new
keeps_after old mid new first second k = second k ∙ first k

module _ (ks : List Key) (i : ℕ) (d : Key) (inside : i < length ks) where
  -- the first keys with the next one
  pub first_more : (q : Key) → Contains (take i ks) q ⊎ (q ≡ get_or ks i d) → Contains (take (i + 1) ks) q
  first_more q h = subst (λ ys. Contains ys q) (sym (take_more ks i d inside)) (elim h [
    | inl c ↦ Contains-append_left (take i ks) (get_or ks i d ∷ []) q c
    | inr e ↦ subst (Contains (take i ks ++ get_or ks i d ∷ [])) (sym e) (Contains-push (take i ks) (get_or ks i d))
  ])

  pub first_cases : (q : Key) → Contains (take (i + 1) ks) q → Contains (take i ks) q ⊎ (q ≡ get_or ks i d)
  first_cases q c = elim (Contains-push_cases (take i ks) (get_or ks i d) q (subst (λ ys. Contains ys q) (take_more ks i d inside) c)) [
    | inl b ↦ inl b
    | inr e ↦ inr (sym e)
  ]

  -- one key more is put under a head
  pub putting_more : (h : Key) (old mid new : Partition) → IsPutting h (take i ks) old mid → KeepsKeys mid new → Puts h (get_or ks i d) mid new
      → IsPutting h (take (i + 1) ks) old new
  putting_more h old mid new putting keeps puts = record {
    kept = keeps_after old mid new putting.kept keeps;
    partition = puts.partition;
    adds = λ j q. (
      (λ n. elim ((puts.adds j q).0 n) [
        | inl m ↦ elim ((putting.adds j q).0 m) [
          | inl o ↦ inl o
          | inr both ↦ inr (both.0, first_more q (inl both.1))
        ]
        | inr both ↦ inr (both.0, first_more q (inr both.1))
      ]),
      (λ h. elim h [
        | inl o ↦ (puts.adds j q).1 (inl ((putting.adds j q).1 (inl o)))
        | inr both ↦ elim (first_cases q both.1) [
          | inl b ↦ (puts.adds j q).1 (inl ((putting.adds j q).1 (inr (both.0, b))))
          | inr e ↦ (puts.adds j q).1 (inr (both.0, e))
        ]
      ]),
    );
  }

pub none_in : (q : Key) → Contains [] q → ⊥
none_in q c = let lt = c.1 in absurd (omega arith)

pub putting_none : (h : Key) (p : Partition) → IsPartition (heads_of p) (members_of p) → IsPutting h [] p p
putting_none h p is = record {
  kept = λ k. refl;
  partition = is;
  adds = λ j q. ((λ m. inl m), (λ m. elim m [ inl o ↦ o | inr both ↦ absurd (none_in q both.1) ]));
}

-- who is in no other group before is in none on the way
pub putting_free : (h : Key) (ks some : List Key) (old mid : Partition) → ((i q : Key) → Contains ks q → members_of old i q → i ≡ h) → IsPutting h some old mid
    → (i q : Key) → Contains ks q → members_of mid i q → i ≡ h
putting_free h ks some old mid free putting i q c m = elim ((putting.adds i q).0 m) [
  | inl o ↦ free i q c o
  | inr both ↦ both.0
]

-- a row under one head, whose keys are moved under another one
module _ (from to : Key) (row : BTreeSet Key) (old out : Partition) (is : IsPartition (heads_of old) (members_of old)) (is_row : row_at old.rows.entries from ≡ Some row)
    (same : out.heads.entries ≡ old.heads.entries) (updates : (q : Key) → row_at out.rows.entries q ≡ cond (is_same_key from q) None (row_at old.rows.entries q)) where
  pub row_members : (q : Key) → Contains row.keys q ↔ members_of old from q
  row_members q = (
    (λ c. subst (λ o. IsIn o q) (sym is_row) ((has_contains row q).1 c)),
    (λ m. (has_contains row q).0 (subst (λ o. IsIn o q) is_row m)),
  )

  none : (h : Key) → h ≡ from → row_at out.rows.entries h ≡ None
  none h e = updates h ∙ (λ j. cond (same_here from h (sym e) j) None (row_at old.rows.entries h))

  kept_row : (h : Key) → h ≢ from → row_at out.rows.entries h ≡ row_at old.rows.entries h
  kept_row h n = updates h ∙ (λ j. cond (same_apart from h (λ e. n (sym e)) j) None (row_at old.rows.entries h))

  apart : (h k : Key) → members_of out h k → h ≢ from
  apart h k m e = subst (λ o. IsIn o k) (none h e) m

  was : (h k : Key) → members_of out h k → members_of old h k
  was h k m = subst (λ o. IsIn o k) (kept_row h (apart h k m)) m

  pub stays : (h k : Key) → members_of old h k → h ≢ from → members_of out h k
  stays h k m n = subst (λ o. IsIn o k) (sym (kept_row h n)) m

  pub out_partition : IsPartition (heads_of out) (members_of out)
  out_partition = record {
    one = λ h k m. ap (λ es. head_at es k) same ∙ is.one h k (was h k m);
    own = λ h k m. stays h h (is.own h k (was h k m)) (apart h k m);
  }

  pub out_keys : KeepsKeys old out
  out_keys k = ap (λ es. is_some (head_at es k)) same

  pub out_there : (q : Key) → Contains row.keys q → IsSome (heads_of out q)
  out_there q c = out_keys q ∙ ap is_some (is.one from q ((row_members q).0 c))

  pub out_free : (h q : Key) → Contains row.keys q → members_of out h q → h ≡ to
  out_free h q c m = absurd (apart h q m (heads_same (heads_of old) (members_of old) is h from q (was h q m) ((row_members q).0 c)))

  pub out_moves : (N : Members) → AddsAll to row.keys (members_of out) N → MovesTo from to (members_of old) N
  out_moves N adds j q = (
    (λ n. elim ((adds j q).0 n) [ inl m ↦ inl (was j q m, apart j q m) | inr both ↦ inr (both.0, (row_members q).0 both.1) ]),
    (λ m. (adds j q).1 (elim m [ inl o ↦ inl (stays j q o.0 o.1) | inr both ↦ inr (both.0, (row_members q).1 both.1) ])),
  )

-- a set of keys, which were in no group and have one head, is put into one group
module _ (keys : BTreeSet Key) (p : Partition) (is : IsPartition (heads_of p) (members_of p)) (free : (h q : Key) → members_of p h q → Lacks keys q) where
  -- under their head, which is one of them
  module _ (head : Key) (has : Has keys head) (alike : (q : Key) → Has keys q → heads_of p q ≡ Some head) (new : Partition) (same : new.heads.entries ≡ p.heads.entries)
      (updates : (q : Key) → row_at new.rows.entries q ≡ cond (is_same_key head q) (Some keys) (row_at p.rows.entries q)) where
    none_before : (h q : Key) → h ≡ head → members_of p h q → ⊥
    none_before h q e m =
        let own : members_of p head head = subst (λ x. members_of p x x) e (is.own h q m) in
        lacks_not keys head has (free head head own)

    row_here : (h : Key) → h ≡ head → row_at new.rows.entries h ≡ Some keys
    row_here h e = updates h ∙ (λ j. cond (same_here head h (sym e) j) (Some keys) (row_at p.rows.entries h))

    row_apart : (h : Key) → h ≢ head → row_at new.rows.entries h ≡ row_at p.rows.entries h
    row_apart h n = updates h ∙ (λ j. cond (same_apart head h (λ e. n (sym e)) j) (Some keys) (row_at p.rows.entries h))

    set_adds : AddsAll head keys.keys (members_of p) (members_of new)
    set_adds h q = elim (same_or_apart h head) [
      | inl e ↦ (
        (λ m. inr (e, (has_contains keys q).0 (subst (λ o. IsIn o q) (row_here h e) m))),
        (λ m. elim m [
          | inl o ↦ absurd (none_before h q e o)
          | inr both ↦ subst (λ o. IsIn o q) (sym (row_here h e)) ((has_contains keys q).1 both.1)
        ]),
      )
      | inr n ↦ (
        (λ m. inl (subst (λ o. IsIn o q) (row_apart h n) m)),
        (λ m. elim m [ inl o ↦ subst (λ x. IsIn x q) (sym (row_apart h n)) o | inr both ↦ absurd (n both.0) ]),
      )
    ]

    pub set_puts : PutsSet keys (members_of p) (members_of new)
    set_puts = record { head = head; has = has; adds = set_adds }

    pub set_partition : IsPartition (heads_of new) (members_of new)
    set_partition = record { one = one; own = own }
      where
        one : (h q : Key) → members_of new h q → heads_of new q ≡ Some h
        one h q m = ap (λ es. head_at es q) same ∙ elim ((set_adds h q).0 m) [
          | inl o ↦ is.one h q o
          | inr both ↦ alike q ((has_contains keys q).1 both.1) ∙ ap Some (sym both.0)
        ]

        own : (h q : Key) → members_of new h q → members_of new h h
        own h q m = elim ((set_adds h q).0 m) [
          | inl o ↦ (set_adds h h).1 (inl (is.own h q o))
          | inr both ↦ (set_adds h h).1 (inr (both.0, subst (Contains keys.keys) (sym both.0) ((has_contains keys head).0 has)))
        ]

  -- under one of them, one by one
  module _ (any : Key) (has : Has keys any) (list : List Key) (are : list ≡ keys.keys) (mid : Partition) (puts : Puts any any p mid) where
    pub list_free : (h q : Key) → Contains list q → members_of mid h q → h ≡ any
    list_free h q c m = elim ((puts.adds h q).0 m) [
      | inl o ↦ absurd (lacks_not keys q ((has_contains keys q).1 (subst (λ ks. Contains ks q) are c)) (free h q o))
      | inr both ↦ both.0
    ]

    pub list_puts : (N : Members) → AddsAll any list (members_of mid) N → PutsSet keys (members_of p) N
    list_puts N adds = record {
      head = any;
      has = has;
      adds = λ h q. (
        (λ n. elim ((adds h q).0 n) [
          | inl m ↦ elim ((puts.adds h q).0 m) [
            | inl o ↦ inl o
            | inr both ↦ inr (both.0, subst (Contains keys.keys) (sym both.1) ((has_contains keys any).0 has))
          ]
          | inr both ↦ inr (both.0, subst (λ ks. Contains ks q) are both.1)
        ]),
        (λ m. (adds h q).1 (elim m [ inl o ↦ inl ((puts.adds h q).1 (inl o)) | inr both ↦ inr (both.0, subst (λ ks. Contains ks q) (sym are) both.1) ])),
      );
    }

  module _ (mid : Partition) (puts : PutsSet keys (members_of p) (members_of mid)) where
    set_kept : (k q : Key) → Together (members_of p) k q → Together (members_of mid) k q
    set_kept k q t = (t.0, (puts.adds t.0 k).1 (inl t.1), (puts.adds t.0 q).1 (inl t.2))

    set_together : (k q : Key) → Has keys k → Has keys q → Together (members_of mid) k q
    set_together k q first second =
        (puts.head, (puts.adds puts.head k).1 (inr (refl, (has_contains keys k).0 first)), (puts.adds puts.head q).1 (inr (refl, (has_contains keys q).0 second)))

    set_cases : (k q : Key) → Together (members_of mid) k q → Together (members_of p) k q ⊎ (Has keys k × Has keys q)
    set_cases k q t = elim ((puts.adds t.0 k).0 t.1) [
      | inl first ↦ elim ((puts.adds t.0 q).0 t.2) [
        | inl second ↦ inl (t.0, first, second)
        | inr second ↦ absurd (never t.0 k second.0 first)
      ]
      | inr first ↦ elim ((puts.adds t.0 q).0 t.2) [
        | inl second ↦ absurd (never t.0 q first.0 second)
        | inr second ↦ inr ((has_contains keys k).1 first.1, (has_contains keys q).1 second.1)
      ]
    ]
      where
        never : (h x : Key) → h ≡ puts.head → members_of p h x → ⊥
        never h x e m = lacks_not keys puts.head puts.has (free puts.head puts.head (subst (λ y. members_of p y y) e (is.own h x m)))

    pub left_puts : PutsLeft keys (members_of p) (members_of mid)
    left_puts = record { kept = set_kept; rest = set_together; sound = set_cases }

-- nothing is left
pub left_none : (keys : BTreeSet Key) (M : Members) → ((q : Key) → Lacks keys q) → PutsLeft keys M M
left_none keys M none = record {
  kept = λ k q t. t;
  rest = λ k q h. absurd (lacks_not keys k h (none k));
  sound = λ k q t. inl t;
}
