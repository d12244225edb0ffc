-- Searches from neighbour to neighbour: what each step keeps.
use Rattle.std.proofs.Common.{◌≡◌, ◌≢◌, ◌⊎◌, ◌↔◌, ◌<◌, ◌≤◌, ◌+◌, ◌++◌, ◌∷◌, [], ℕ, inl, inr, Bool, true, false, ◌||◌, cond, List, length, suc, take, drop, get_or, arith, Contains, Option, None, Some, IsSome, is_some, refl, sym, ap, subst, ◌∙◌}
use Rattle.std.specs.FinMap.{get}
use Rattle.std.specs.List.{IsDistinct, slice_get}
use Rattle.std.specs.Map.{keys_of}
use Rattle.std.specs.Option.{unwrap_or}
use Rattle.std.proofs.lemmas.List.{length-append, take-append-drop}
use Rattle.std.proofs.lemmas.List.Elements.{Contains-append_cases, Contains-append_left, Contains-append_right, Contains-get_or, Contains-push, Contains-push_cases}
use Rattle.geda_geom.specs.declared.conductor.Key.{Key}
use Rattle.touch_index.specs.Index.{IndexData, IsNeighbour}
use Rattle.touch_index.specs.steps.Sifting.{is_same_key}
use Rattle.net_flood.specs.Grouping.{Conductors, InGroup}
use Rattle.net_flood.specs.declared.search.Search.{Search}
use Rattle.net_flood.specs.steps.Partition.{Heads, head_at}
use Rattle.net_flood.specs.steps.Search.{Absorbs, AreLinked, AreUnder, AreUnique, Begins, Grows, IsAsking, IsFound, IsMoving, IsPlaced, IsRacing, IsReached, IsRow, IsSearch, IsSearching, IsUnder, Looks, Meets, Moves, Races, Reaches, Searches, is_that, passing}
use Rattle.net_flood.proofs.ConductorLemmas.{get_removed, group_end, group_itself, group_once, group_trans, group_turn, near_alike, near_first, near_second, near_turn, removed_apart}
use Rattle.net_flood.proofs.KeyLemmas.{same_apart, same_here, same_or_apart}
use Rattle.net_flood.proofs.PartitionLemmas.{first_cases, first_more, none_in}

-- who touches where one conductor is passed over
pub passed_near : (passed : Option Key) (cs : Conductors) (k q : Key) → is_that passed k ≡ false → is_that passed q ≡ false → IsNeighbour (get cs) k q → IsNeighbour (get (passing passed cs)) k q
passed_near None cs k q first second n = n
passed_near (Some key) cs k q first second n = near_alike (get cs) (get (passing (Some key) cs)) k q (sym (get_removed cs key k (other k first))) (sym (get_removed cs key q (other q second))) n
  where
    other : (x : Key) → is_same_key key x ≡ false → x ≢ key
    other x f e = let p : true ≡ false = sym (same_here key x (sym e)) ∙ f in absurd (cc)

pub passing_near : (passed : Option Key) (cs : Conductors) (k q : Key) → IsNeighbour (get (passing passed cs)) k q → IsNeighbour (get cs) k q
passing_near None cs k q n = n
passing_near (Some key) cs k q n = near_alike (get (passing (Some key) cs)) (get cs) k q
    (get_removed cs key k (removed_apart cs key k (near_first (get (passing (Some key) cs)) k q n)))
    (get_removed cs key q (removed_apart cs key q (near_second (get (passing (Some key) cs)) k q n))) n

pub passing_there : (passed : Option Key) (cs : Conductors) (q : Key) → IsSome (get (passing passed cs) q) → IsSome (get cs q)
passing_there None cs q there = there
passing_there (Some key) cs q there = ap is_some (sym (get_removed cs key q (removed_apart cs key q there))) ∙ there

pub not_passed : (passed : Option Key) (cs : Conductors) (q : Key) → IsSome (get (passing passed cs) q) → is_that passed q ≡ false
not_passed None cs q there = refl
not_passed (Some key) cs q there = same_apart key q (λ e. removed_apart cs key q there (sym e))

-- heads
pub under_one : (found : Heads) (h g q : Key) → IsUnder found h q → IsUnder found g q → h ≡ g
under_one found h g q first second = ap (λ x. unwrap_or x h) (sym first ∙ second)

pub is_found : (found : Heads) (h q : Key) → IsUnder found h q → IsFound found q
is_found found h q u = ap is_some u

pub head_of : (o : Option Key) → IsSome o → (h : Key) × (o ≡ Some h)
head_of None s = absurd (cc)
head_of (Some h) s = (h, refl)

pub head_or_none : (o : Option Key) → ((h : Key) × (o ≡ Some h)) ⊎ (o ≡ None)
head_or_none None = inr refl
head_or_none (Some h) = inl (h, refl)

pub under_none : (found : Heads) (h q : Key) → head_at found q ≡ None → IsUnder found h q → ⊥
under_none found h q none u = let p : None ≡ Some h = sym none ∙ u in absurd (cc)

-- what grows
pub grows_nowhere : (P : Key → Type 0) (found : Heads) → Grows P found found
grows_nowhere P found = record { later = λ q f. inl f; unique = λ u. u; more = omega arith }

pub grows_more : (P Q : Key → Type 0) (found after : Heads) → ((q : Key) → P q → Q q) → Grows P found after → Grows Q found after
grows_more P Q found after f grows = record {
  later = λ q h. elim (grows.later q h) [ inl o ↦ inl o | inr p ↦ inr (f q p) ];
  unique = grows.unique;
  more = grows.more;
}

pub grows_then : (P Q R : Key → Type 0) (found mid after : Heads) → ((q : Key) → P q → R q) → ((q : Key) → Q q → R q) → Grows P found mid → Grows Q mid after → Grows R found after
grows_then P Q R found mid after f g first second = record {
  later = λ q h. elim (second.later q h) [
    | inl m ↦ elim (first.later q m) [ inl o ↦ inl o | inr p ↦ inr (f q p) ]
    | inr p ↦ inr (g q p)
  ];
  unique = λ u. second.unique (first.unique u);
  more = let a = first.more in let b = second.more in omega arith;
}

-- a key gets a head
module _ (found after : Heads) (key head : Key) (updates : (q : Key) → head_at after q ≡ cond (is_same_key key q) (Some head) (head_at found q)) where
  pub set_here : (q : Key) → q ≡ key → IsUnder after head q
  set_here q e = updates q ∙ (λ i. cond (same_here key q (sym e) i) (Some head) (head_at found q))

  pub set_apart : (q : Key) → q ≢ key → head_at after q ≡ head_at found q
  set_apart q n = updates q ∙ (λ i. cond (same_apart key q (λ e. n (sym e)) i) (Some head) (head_at found q))

  pub grows_set : AreUnique after → length found ≤ length after → Grows (λ q. q ≡ key) found after
  grows_set unique more = record {
    later = λ q f. elim (same_or_apart q key) [ inl e ↦ inr e | inr n ↦ inl (ap is_some (sym (set_apart q n)) ∙ f) ];
    unique = λ u. unique;
    more = more;
  }

  -- it was not found before, and waits in a search
  pub puts_looks : (s t : Search) → head ≡ s.start → head_at found key ≡ None → t.start ≡ s.start → t.row.items ≡ s.row.items ++ key ∷ [] → t.waiting.items ≡ s.waiting.items ++ key ∷ []
      → Looks (λ q. q ≡ key) false s t found after
  puts_looks s t is none start row waiting = record {
    start = start;
    kept = kept;
    later = later;
    first = first;
    news = λ q f. elim (same_or_apart q key) [ inl e ↦ inr (waits q e) | inr n ↦ inl (ap is_some (sym (set_apart q n)) ∙ f) ];
    search = λ was. record {
      row = λ q. (
        (λ c. elim (Contains-push_cases s.row.items key q (subst (λ ks. Contains ks q) row c)) [
          | inl b ↦ under q (kept s.start q ((was.row q).0 b))
          | inr e ↦ under q (here q (sym e))
        ]),
        (λ u. subst (λ ks. Contains ks q) (sym row) (elim (later s.start q (subst (λ x. IsUnder after x q) start u)) [
          | inl o ↦ Contains-append_left s.row.items (key ∷ []) q ((was.row q).1 o)
          | inr both ↦ subst (Contains (s.row.items ++ key ∷ [])) (sym both.1) (Contains-push s.row.items key)
        ])),
      );
      waits = λ q c. elim (Contains-push_cases s.waiting.items key q (subst (λ ks. Contains ks q) waiting c)) [
        | inl b ↦ under q (kept s.start q (was.waits q b))
        | inr e ↦ under q (here q (sym e))
      ];
    };
    links = λ q e. (s.start, here q e, inl refl);
    meets = λ m. absurd (cc);
  }
    where
      here : (q : Key) → q ≡ key → IsUnder after s.start q
      here q e = subst (λ x. IsUnder after x q) is (set_here q e)

      under : (q : Key) → IsUnder after s.start q → IsUnder after t.start q
      under q u = subst (λ x. IsUnder after x q) (sym start) u

      kept : (h q : Key) → IsUnder found h q → IsUnder after h q
      kept h q u = elim (same_or_apart q key) [
        | inl e ↦ absurd (under_none found h key none (subst (IsUnder found h) e u))
        | inr n ↦ set_apart q n ∙ u
      ]

      later : (h q : Key) → IsUnder after h q → IsUnder found h q ⊎ ((h ≡ s.start) × (q ≡ key))
      later h q u = elim (same_or_apart q key) [
        | inl e ↦ inr (under_one after h s.start q u (here q e), e)
        | inr n ↦ inl (sym (set_apart q n) ∙ u)
      ]

      first : (q : Key) → Contains s.waiting.items q → Contains t.waiting.items q
      first q c = subst (λ ks. Contains ks q) (sym waiting) (Contains-append_left s.waiting.items (key ∷ []) q c)

      waits : (q : Key) → q ≡ key → Contains t.waiting.items q
      waits q e = subst (λ ks. Contains ks q) (sym waiting) (subst (Contains (s.waiting.items ++ key ∷ [])) (sym e) (Contains-push s.waiting.items key))

-- a search that has found nothing begins
pub begins_search : (key : Key) (s t : Search) (found after : Heads) → s.start ≡ key → s.row.items ≡ [] → s.waiting.items ≡ [] → Looks (λ q. q ≡ key) false s t found after → Begins key t found after
begins_search key s t found after start row waiting looks = record {
  start = looks.start ∙ start;
  kept = looks.kept;
  later = λ h q u. elim (looks.later h q u) [ inl o ↦ inl o | inr both ↦ inr (both.0 ∙ start, both.1) ];
  here =
      let link = looks.links key refl in
      elim link.2 [
        | inl e ↦ subst (λ x. IsUnder after x key) (e ∙ start) link.1
        | inr e ↦ absurd (cc)
      ];
  news = looks.news;
  search = λ never. looks.search (record {
    row = λ q. (
      (λ c. absurd (none_in q (subst (λ ks. Contains ks q) row c))),
      (λ u. absurd (never q (subst (λ x. IsUnder found x q) start u))),
    );
    waits = λ q c. absurd (none_in q (subst (λ ks. Contains ks q) waiting c));
  });
}

-- a query
looks_as : (P Q : Key → Type 0) (met : Bool) (s t : Search) (found after : Heads) → ((q : Key) → P q → Q q) → ((q : Key) → Q q → P q) → Looks P met s t found after → Looks Q met s t found after
looks_as P Q met s t found after to from looks = record {
  start = looks.start;
  kept = looks.kept;
  later = λ h q u. elim (looks.later h q u) [ inl o ↦ inl o | inr both ↦ inr (both.0, to q both.1) ];
  first = looks.first;
  news = looks.news;
  search = looks.search;
  links = λ q n. looks.links q (from q n);
  meets = λ m. let w = looks.meets m in (w.0, to w.0 w.1, w.2, w.3, w.4);
}

or_cases : (a b : Bool) → (a || b) ≡ true → (a ≡ true) ⊎ (b ≡ true)
or_cases true b e = inl refl
or_cases false b e = inr e

or_first : (a b : Bool) → a ≡ true → (a || b) ≡ true
or_first true b e = refl
or_first false b e = absurd (cc)

or_second : (a b : Bool) → b ≡ true → (a || b) ≡ true
or_second true b e = refl
or_second false b e = e

looks_then : (P : Key → Type 0) (x : Key) (met once : Bool) (s t u : Search) (found mid after : Heads)
    → Looks P met s t found mid → Looks (λ q. q ≡ x) once t u mid after → Looks (λ q. P q ⊎ (q ≡ x)) (met || once) s u found after
looks_then P x met once s t u found mid after first second = record {
  start = second.start ∙ first.start;
  kept = λ h q v. second.kept h q (first.kept h q v);
  later = λ h q v. elim (second.later h q v) [
    | inl m ↦ elim (first.later h q m) [ inl o ↦ inl o | inr b ↦ inr (b.0, inl b.1) ]
    | inr b ↦ inr (b.0 ∙ first.start, inr b.1)
  ];
  first = λ q c. second.first q (first.first q c);
  news = λ q f. elim (second.news q f) [
    | inl m ↦ elim (first.news q m) [ inl o ↦ inl o | inr c ↦ inr (second.first q c) ]
    | inr c ↦ inr c
  ];
  search = λ was. second.search (first.search was);
  links = λ q n. elim n [
    | inl p ↦
        let link = first.links q p in
        (link.0, second.kept link.0 q link.1, elim link.2 [ inl e ↦ inl e | inr m ↦ inr (or_first met once m) ])
    | inr e ↦
        let link = second.links q e in
        (link.0, link.1, elim link.2 [ inl v ↦ inl (v ∙ first.start) | inr m ↦ inr (or_second met once m) ])
  ];
  meets = λ m. elim (or_cases met once m) [
    | inl b ↦
        let w = first.meets b in
        (w.0, inl w.1, w.2, second.kept w.2 w.0 w.3, w.4)
    | inr b ↦
        let w = second.meets b in
        (w.0, inr w.1, w.2, w.3, (λ e. w.4 (e ∙ sym first.start)))
  ];
}

pub asking_begins : (passed : Option Key) (s : Search) (found : Heads) → IsAsking passed [] false s s found found
asking_begins passed s found = record {
  grows = grows_nowhere (λ q. Contains [] q × (is_that passed q ≡ false)) found;
  looks = record {
    start = refl;
    kept = λ h q u. u;
    later = λ h q u. inl u;
    first = λ q c. c;
    news = λ q f. inl f;
    search = λ was. was;
    links = λ q both. absurd (none_in q both.0);
    meets = λ m. absurd (cc);
  };
  count = omega arith;
}

module _ (passed : Option Key) (near : List Key) (i : ℕ) (d : Key) (inside : i < length near) (met : Bool) (s t : Search) (found mid : Heads)
    (asking : IsAsking passed (take i near) met s t found mid) where
  abbrev Few : Key → Type 0
  Few q = Contains (take i near) q × (is_that passed q ≡ false)

  abbrev More : Key → Type 0
  More q = Contains (take (i + 1) near) q × (is_that passed q ≡ false)

  few_more : (q : Key) → Few q → More q
  few_more q both = (first_more near i d inside q (inl both.0), both.1)

  -- the next neighbour is passed over
  pub asking_past : is_that passed (get_or near i d) ≡ true → IsAsking passed (take (i + 1) near) met s t found mid
  asking_past is = record {
    grows = grows_more Few More found mid few_more asking.grows;
    looks = looks_as Few More met s t found mid few_more back asking.looks;
    count = asking.count;
  }
    where
      back : (q : Key) → More q → Few q
      back q both = elim (first_cases near i d inside q both.0) [
        | inl b ↦ (b, both.1)
        | inr e ↦ let p : true ≡ false = sym is ∙ ap (is_that passed) (sym e) ∙ both.1 in absurd (cc)
      ]

  -- the next neighbour is found
  pub asking_more : (once : Bool) (u : Search) (after : Heads) → is_that passed (get_or near i d) ≡ false
      → Grows (λ q. q ≡ get_or near i d) mid after → Looks (λ q. q ≡ get_or near i d) once t u mid after → length u.waiting.items + length mid ≤ length t.waiting.items + length after
      → IsAsking passed (take (i + 1) near) (met || once) s u found after
  asking_more once u after is grows looks few = record {
    grows = grows_then Few (λ q. q ≡ get_or near i d) More found mid after few_more next_more asking.grows grows;
    looks = looks_as (λ q. Few q ⊎ (q ≡ get_or near i d)) More (met || once) s u found after
        (λ q e. elim e [ inl f ↦ few_more q f | inr x ↦ next_more q x ])
        (λ q m. elim (first_cases near i d inside q m.0) [ inl b ↦ inl (b, m.1) | inr e ↦ inr e ])
        (looks_then Few (get_or near i d) met once s t u found mid after asking.looks looks);
    count = let was = asking.count in omega arith;
  }
    where
      next_more : (q : Key) → q ≡ get_or near i d → More q
      next_more q e = (first_more near i d inside q (inr e), ap (is_that passed) e ∙ is)

-- all neighbours were looked at
module _ (passed : Option Key) (cs : Conductors) (key : Key) (near : List Key) (all : (q : Key) → Contains near q ↔ IsNeighbour (get cs) key q) (there : IsSome (get (passing passed cs) key)) where
  -- an early neighbour that is not passed over
  pub near_one : (q : Key) → Contains near q → is_that passed q ≡ false → IsNeighbour (get (passing passed cs)) key q
  near_one q c is = passed_near passed cs key q (not_passed passed cs key there) is ((all q).0 c)

  pub asks_grow : (few : List Key) (found mid : Heads) → ((q : Key) → Contains few q → Contains near q) → Grows (λ q. Contains few q × (is_that passed q ≡ false)) found mid
      → Grows (IsNeighbour (get (passing passed cs)) key) found mid
  asks_grow few found mid inside grows = grows_more (λ q. Contains few q × (is_that passed q ≡ false)) (IsNeighbour (get (passing passed cs)) key) found mid (λ q both. near_one q (inside q both.0) both.1) grows

  first_near : (i : ℕ) (q : Key) → Contains (take i near) q → Contains near q
  first_near i q c = subst (λ ks. Contains ks q) (take-append-drop i near) (Contains-append_left (take i near) (drop i near) q c)

  -- the next neighbour is looked at
  pub asks_next : (i : ℕ) (d : Key) (found mid after : Heads) → i < length near → is_that passed (get_or near i d) ≡ false → Grows (λ q. Contains (take i near) q × (is_that passed q ≡ false)) found mid
      → Grows (λ q. q ≡ get_or near i d) mid after → Grows (IsNeighbour (get (passing passed cs)) key) found after
  asks_next i d found mid after inside is first second =
      grows_then (IsNeighbour (get (passing passed cs)) key) (λ q. q ≡ get_or near i d) (IsNeighbour (get (passing passed cs)) key) found mid after (λ q n. n)
      (λ q e. subst (IsNeighbour (get (passing passed cs)) key) (sym e) (near_one (get_or near i d) (Contains-get_or near i d inside) is))
      (asks_grow (take i near) found mid (first_near i) first) second

  pub asks_all : (met : Bool) (s t : Search) (found after : Heads) → IsAsking passed near met s t found after → Looks (IsNeighbour (get (passing passed cs)) key) met s t found after
  asks_all met s t found after asking = looks_as (λ q. Contains near q × (is_that passed q ≡ false)) (IsNeighbour (get (passing passed cs)) key) met s t found after
      (λ q both. near_one q both.0 both.1)
      (λ q n. ((all q).1 (passing_near passed cs key q n), not_passed passed cs q (near_second (get (passing passed cs)) key q n)))
      asking.looks

-- keys are put under another head
pub moving_begins : (head : Key) (found : Heads) → IsMoving head [] found found
moving_begins head found = record {
  grows = grows_nowhere (λ q. ⊥) found;
  moves = record { moved = λ q c. absurd (none_in q c); kept = λ q n. refl };
}

pub moving_more : (keys : List Key) (i : ℕ) (d : Key) (head : Key) (found mid after : Heads) → i < length keys → ((q : Key) → Contains keys q → IsFound found q) → IsMoving head (take i keys) found mid
    → ((q : Key) → head_at after q ≡ cond (is_same_key (get_or keys i d) q) (Some head) (head_at mid q)) → AreUnique after → length mid ≤ length after → IsMoving head (take (i + 1) keys) found after
moving_more keys i d head found mid after inside there moving updates unique more = record {
  grows = record {
    later = λ q f. elim (same_or_apart q (get_or keys i d)) [
      | inl e ↦ inl (there q (subst (Contains keys) (sym e) (Contains-get_or keys i d inside)))
      | inr n ↦ moving.grows.later q (ap is_some (sym (set_apart mid after (get_or keys i d) head updates q n)) ∙ f)
    ];
    unique = λ u. unique;
    more = let a = moving.grows.more in omega arith;
  };
  moves = record {
    moved = λ q c. elim (same_or_apart q (get_or keys i d)) [
      | inl e ↦ set_here mid after (get_or keys i d) head updates q e
      | inr n ↦ set_apart mid after (get_or keys i d) head updates q n ∙ moving.moves.moved q (elim (first_cases keys i d inside q c) [ inl b ↦ b | inr e ↦ absurd (n e) ])
    ];
    kept = λ q never. set_apart mid after (get_or keys i d) head updates q (λ e. never (first_more keys i d inside q (inr e)))
        ∙ moving.moves.kept q (λ c. never (first_more keys i d inside q (inl c)));
  };
}

-- one search takes over another one
module _ (large small last : Search) (found after : Heads) (apart : small.start ≢ large.start) (large_row : IsRow large found) (small_row : IsRow small found)
    (moves : Moves large.start small.row.items found after) (start : last.start ≡ large.start) (row : last.row.items ≡ large.row.items ++ small.row.items)
    (waiting : last.waiting.items ≡ large.waiting.items ++ small.waiting.items) where
  under_small : (q : Key) → IsUnder found small.start q → IsUnder after large.start q
  under_small q u = moves.moved q ((small_row q).1 u)

  under_other : (h q : Key) → IsUnder found h q → h ≢ small.start → IsUnder after h q
  under_other h q u n = moves.kept q (λ c. n (under_one found h small.start q u ((small_row q).0 c))) ∙ u

  under_large : (q : Key) → IsUnder found large.start q → IsUnder after large.start q
  under_large q u = under_other large.start q u (λ e. apart (sym e))

  under_cases : (h q : Key) → IsUnder after h q → ((h ≡ large.start) × IsUnder found small.start q) ⊎ (IsUnder found h q × (h ≢ small.start))
  under_cases h q u = elim (head_or_none (head_at found q)) [
    | inl at ↦ elim (same_or_apart at.0 small.start) [
      | inl e ↦
          let was : IsUnder found small.start q = subst (λ x. IsUnder found x q) e at.1 in
          inl (under_one after h large.start q u (under_small q was), was)
      | inr n ↦
          let same : h ≡ at.0 = under_one after h at.0 q u (under_other at.0 q at.1 n) in
          inr (subst (λ x. IsUnder found x q) (sym same) at.1, (λ e. n (sym same ∙ e)))
    ]
    | inr none ↦ absurd (under_none after h q (moves.kept q (λ c. under_none found small.start q none ((small_row q).0 c)) ∙ none) u)
  ]

  pub absorbs : Absorbs large small last found after
  absorbs = record {
    start = start;
    joined = λ q either. elim either [ inl u ↦ under_large q u | inr u ↦ under_small q u ];
    kept = under_other;
    later = under_cases;
    row = λ q. (
      (λ c. subst (λ x. IsUnder after x q) (sym start) (elim (Contains-append_cases large.row.items small.row.items q (subst (λ ks. Contains ks q) row c)) [
        | inl b ↦ under_large q ((large_row q).0 b)
        | inr b ↦ under_small q ((small_row q).0 b)
      ])),
      (λ u. subst (λ ks. Contains ks q) (sym row) (elim (under_cases large.start q (subst (λ x. IsUnder after x q) start u)) [
        | inl both ↦ Contains-append_right large.row.items small.row.items q ((small_row q).1 both.1)
        | inr both ↦ Contains-append_left large.row.items small.row.items q ((large_row q).1 both.0)
      ])),
    );
    waiting = waiting;
  }

-- the second of two searches is put to the first
pub meets_first : (first second last : Search) (found after : Heads) → Absorbs first second last found after → Meets first second last found after
meets_first first second last found after absorbed = record {
  start = inl absorbed.start;
  joined = λ q either. subst (λ x. IsUnder after x q) (sym absorbed.start) (absorbed.joined q either);
  kept = λ h q u one two. absorbed.kept h q u two;
  later = λ h q u. elim (absorbed.later h q u) [
    | inl both ↦ inl (both.0 ∙ sym absorbed.start, inr both.1)
    | inr both ↦ elim (same_or_apart h first.start) [
      | inl e ↦ inl (e ∙ sym absorbed.start, inl (subst (λ x. IsUnder found x q) e both.0))
      | inr n ↦ inr (both.0, (n, both.1))
    ]
  ];
  row = absorbed.row;
  waiting = absorbed.waiting;
}

-- the first of two searches is put to the second, but waits first
pub meets_second : (first second large small last : Search) (found after : Heads) → large.start ≡ second.start → small.start ≡ first.start → large.waiting.items ≡ first.waiting.items → small.waiting.items ≡ second.waiting.items
    → Absorbs large small last found after → Meets first second last found after
meets_second first second large small last found after one two wait_one wait_two absorbed = record {
  start = inr (absorbed.start ∙ one);
  joined = λ q either. subst (λ x. IsUnder after x q) (sym absorbed.start) (absorbed.joined q (elim either [
    | inl u ↦ inr (subst (λ x. IsUnder found x q) (sym two) u)
    | inr u ↦ inl (subst (λ x. IsUnder found x q) (sym one) u)
  ]));
  kept = λ h q u n m. absorbed.kept h q u (λ e. n (e ∙ two));
  later = λ h q u. elim (absorbed.later h q u) [
    | inl both ↦ inl (both.0 ∙ sym absorbed.start, inl (subst (λ x. IsUnder found x q) two both.1))
    | inr both ↦ elim (same_or_apart h large.start) [
      | inl e ↦ inl (e ∙ sym absorbed.start, inr (subst (λ x. IsUnder found x q) (e ∙ one) both.0))
      | inr n ↦ inr (both.0, ((λ e. both.1 (e ∙ sym two)), (λ e. n (e ∙ sym one))))
    ]
  ];
  row = absorbed.row;
  waiting = absorbed.waiting ∙ ap (λ ks. ks ++ small.waiting.items) wait_one ∙ ap (λ ks. first.waiting.items ++ ks) wait_two;
}

pub no_keys : (ks : List Key) → length ks ≡ 0 → ks ≡ []
no_keys [] e = refl
no_keys (k ∷ ks) e = absurd (omega arith)

-- two searches in turn
module _ (cs : Conductors) (before now : IndexData) (first second : Search) (found mid : Heads) (most : ℕ) (racing : IsRacing cs before now first second found mid most) where
  -- the first one has ended
  pub racing_ends : first.waiting.items ≡ [] → Races cs second found mid
  racing_ends none = record {
    placed = racing.placed;
    linked = λ k q n f. elim (racing.linked k q n f) [
      | inl w ↦ elim w [ inl c ↦ absurd (none_in k (subst (λ ks. Contains ks k) none c)) | inr c ↦ inl c ]
      | inr t ↦ inr t
    ];
    search = racing.search_second;
    there = racing.second_there;
    kept = racing.kept;
  }

  module _ (key : Key) (rest : List Key) (are : first.waiting.items ≡ key ∷ rest) where
    key_under : IsUnder mid first.start key
    key_under = racing.search_first.waits key (subst (λ ks. Contains ks key) (sym are) (0, omega arith, refl))

    -- the next key is there
    pub key_there : IsSome (get cs key)
    key_there = group_end cs first.start key (racing.placed.sound first.start key key_under)

    waits_cases : (q : Key) → Contains first.waiting.items q → (q ≡ key) ⊎ Contains rest q
    waits_cases q c = elim (Contains-append_cases (key ∷ []) rest q (subst (λ ks. Contains ks q) are c)) [
      | inl b ↦ elim (Contains-push_cases [] key q b) [ inl n ↦ absurd (none_in q n) | inr e ↦ inl (sym e) ]
      | inr b ↦ inr b
    ]

    -- its neighbours are found
    module _ (after : Heads) (grows : Grows (IsNeighbour (get cs) key) mid after) where
      -- what was found is there
      pub asked_there : (q : Key) → IsFound after q → IsSome (get cs q)
      asked_there q f = elim (grows.later q f) [
        | inl m ↦ let at = head_of (head_at mid q) m in group_end cs at.0 q (racing.placed.sound at.0 q at.1)
        | inr n ↦ near_second (get cs) key q n
      ]

      pub asked_grows : Grows (Reaches cs found) found after
      asked_grows = record {
        later = λ q f. elim (grows.later q f) [
          | inl m ↦ racing.grows.later q m
          | inr n ↦ inr (elim (racing.grows.later key (is_found mid first.start key key_under)) [
            | inl o ↦ (key, o, group_once cs key q n)
            | inr r ↦ (r.0, r.1, group_trans cs r.0 key q r.2 (group_once cs key q n))
          ])
        ];
        unique = λ u. grows.unique (racing.grows.unique u);
        more = let a = racing.grows.more in let b = grows.more in omega arith;
      }

      module _ (popped third : Search) (met : Bool) (looks : Looks (IsNeighbour (get cs) key) met popped third mid after) (same_start : popped.start ≡ first.start) (same_row : popped.row.items ≡ first.row.items)
          (same_rest : popped.waiting.items ≡ rest) where
        start_third : third.start ≡ first.start
        start_third = looks.start ∙ same_start

        popped_search : IsSearch popped mid
        popped_search = record {
          row = λ q. (
            (λ c. subst (λ x. IsUnder mid x q) (sym same_start) ((racing.search_first.row q).0 (subst (λ ks. Contains ks q) same_row c))),
            (λ u. subst (λ ks. Contains ks q) (sym same_row) ((racing.search_first.row q).1 (subst (λ x. IsUnder mid x q) same_start u))),
          );
          waits = λ q c. subst (λ x. IsUnder mid x q) (sym same_start)
              (racing.search_first.waits q (subst (λ ks. Contains ks q) (sym are) (Contains-append_right (key ∷ []) rest q (subst (λ ks. Contains ks q) same_rest c))));
        }

        pub third_search : IsSearch third after
        third_search = looks.search popped_search

        pub second_search : IsSearch second after
        second_search = record {
          row = λ q. (
            (λ c. looks.kept second.start q ((racing.search_second.row q).0 c)),
            (λ u. elim (looks.later second.start q u) [
              | inl o ↦ (racing.search_second.row q).1 o
              | inr both ↦ absurd (racing.apart (both.0 ∙ same_start))
            ]),
          );
          waits = λ q c. looks.kept second.start q (racing.search_second.waits q c);
        }

        pub third_apart : second.start ≢ third.start
        third_apart e = racing.apart (e ∙ start_third)

        third_there : IsUnder after third.start third.start
        third_there = subst (λ x. IsUnder after x x) (sym start_third) (looks.kept first.start first.start racing.first_there)

        second_there : IsUnder after second.start second.start
        second_there = looks.kept second.start second.start racing.second_there

        key_third : IsUnder after third.start key
        key_third = subst (λ x. IsUnder after x key) (sym start_third) (looks.kept first.start key key_under)

        placed_after : IsPlaced cs after
        placed_after = record {
          own = λ h q u. elim (looks.later h q u) [
            | inl o ↦ looks.kept h h (racing.placed.own h q o)
            | inr both ↦ subst (λ x. IsUnder after x x) (sym (both.0 ∙ same_start)) (looks.kept first.start first.start racing.first_there)
          ];
          sound = λ h q u. elim (looks.later h q u) [
            | inl o ↦ racing.placed.sound h q o
            | inr both ↦ subst (λ x. InGroup cs x q) (sym (both.0 ∙ same_start)) (group_trans cs first.start key q (racing.placed.sound first.start key key_under) (group_once cs key q both.1))
          ];
        }

        kept_after : (q : Key) → IsFound found q → IsFound after q
        kept_after q f =
            let at = head_of (head_at mid q) (racing.kept q f) in
            is_found after at.0 q (looks.kept at.0 q at.1)

        linked_after : (k q : Key) → IsNeighbour (get cs) k q → IsFound after k → (Contains third.waiting.items k ⊎ Contains second.waiting.items k) ⊎ (AreUnder after k q ⊎ (k ≡ key))
        linked_after k q n f = elim (looks.news k f) [
          | inl o ↦ elim (racing.linked k q n o) [
            | inl w ↦ elim w [
              | inl c ↦ elim (waits_cases k c) [
                | inl e ↦ inr (inr e)
                | inr r ↦ inl (inl (looks.first k (subst (λ ks. Contains ks k) (sym same_rest) r)))
              ]
              | inr c ↦ inl (inr c)
            ]
            | inr t ↦ inr (inl (t.0, looks.kept t.0 k t.1, looks.kept t.0 q t.2))
          ]
          | inr c ↦ inl (inl c)
        ]

        -- it has met no other search, and the second one is next
        pub racing_more : (then : IndexData) → then.conductors ≡ now.conductors → AreUnique after → met ≡ false
            → then.asked ≤ now.asked + 1 → length third.waiting.items + length mid ≤ length rest + length after
            → IsRacing cs before then second third found after most
        racing_more then same unique none once few = record {
          same = same ∙ racing.same;
          unique = unique;
          grows = asked_grows;
          placed = placed_after;
          linked = λ k q n f. elim (linked_after k q n f) [
            | inl w ↦ inl (elim w [ inl c ↦ inr c | inr c ↦ inl c ])
            | inr either ↦ inr (elim either [
              | inl t ↦ t
              | inr e ↦
                  let link = looks.links q (subst (λ x. IsNeighbour (get cs) x q) e n) in
                  elim link.2 [
                    | inl s ↦ (third.start, subst (IsUnder after third.start) (sym e) key_third, subst (λ x. IsUnder after x q) (s ∙ sym looks.start) link.1)
                    | inr m ↦ absurd (let p : true ≡ false = sym m ∙ none in cc)
                  ]
            ])
          ];
          search_first = second_search;
          search_second = third_search;
          first_there = second_there;
          second_there = third_there;
          apart = λ e. third_apart (sym e);
          kept = kept_after;
          count = let long : length first.waiting.items ≡ suc (length rest) = ap length are in let was = racing.count in omega arith;
        }

        -- who touches the key was found by one of both
        touches : (h q : Key) → IsNeighbour (get cs) key q → IsUnder after h q → (h ≡ third.start) ⊎ (h ≡ second.start)
        touches h q n u = elim (same_or_apart h first.start) [
          | inl e ↦ inl (e ∙ sym start_third)
          | inr other ↦ elim (looks.later h q u) [
            | inl o ↦ elim (racing.linked q key (near_turn (get cs) key q n) (is_found mid h q o)) [
              | inl w ↦ elim w [
                | inl c ↦ absurd (other (under_one mid h first.start q o (racing.search_first.waits q c)))
                | inr c ↦ inr (under_one mid h second.start q o (racing.search_second.waits q c))
              ]
              | inr t ↦ absurd (other (under_one mid h t.0 q o t.1 ∙ under_one mid t.0 first.start key t.2 key_under))
            ]
            | inr both ↦ absurd (other (both.0 ∙ same_start))
          ]
        ]

        both_under : (q : Key) → IsNeighbour (get cs) key q → IsUnder after third.start q ⊎ IsUnder after second.start q
        both_under q n =
            let link = looks.links q n in
            elim (touches link.0 q n link.1) [
              | inl e ↦ inl (subst (λ x. IsUnder after x q) e link.1)
              | inr e ↦ inr (subst (λ x. IsUnder after x q) e link.1)
            ]

        -- it has met the second one
        module _ (is_met : met ≡ true) (last : Search) (end : Heads) (meets : Meets third second last after end) where
          chain : InGroup cs third.start second.start
          chain =
              let w = looks.meets is_met in
              let under : IsUnder after second.start w.0 = elim (touches w.2 w.0 w.1 w.3) [
                | inl e ↦ absurd (w.4 (e ∙ looks.start))
                | inr e ↦ subst (λ x. IsUnder after x w.0) e w.3
              ] in
              group_trans cs third.start w.0 second.start
              (group_trans cs third.start key w.0 (placed_after.sound third.start key key_third) (group_once cs key w.0 w.1))
              (group_turn cs second.start w.0 (placed_after.sound second.start w.0 under))

          to_third : InGroup cs last.start third.start
          to_third = elim meets.start [
            | inl e ↦ subst (λ x. InGroup cs x third.start) (sym e) (group_itself cs third.start chain.0)
            | inr e ↦ subst (λ x. InGroup cs x third.start) (sym e) (group_turn cs third.start second.start chain)
          ]

          last_there : IsUnder end last.start last.start
          last_there = meets.joined last.start (elim meets.start [
            | inl e ↦ inl (subst (IsUnder after third.start) (sym e) third_there)
            | inr e ↦ inr (subst (IsUnder after second.start) (sym e) second_there)
          ])

          kept_end : (h k q : Key) → IsUnder after h k → IsUnder after h q → AreUnder end k q
          kept_end h k q one two = elim (same_or_apart h third.start) [
            | inl e ↦ (last.start, meets.joined k (inl (subst (λ x. IsUnder after x k) e one)), meets.joined q (inl (subst (λ x. IsUnder after x q) e two)))
            | inr n ↦ elim (same_or_apart h second.start) [
              | inl e ↦ (last.start, meets.joined k (inr (subst (λ x. IsUnder after x k) e one)), meets.joined q (inr (subst (λ x. IsUnder after x q) e two)))
              | inr m ↦ (h, meets.kept h k one n m, meets.kept h q two n m)
            ]
          ]

          found_before : (q : Key) → IsFound end q → IsFound after q
          found_before q f =
              let at = head_of (head_at end q) f in
              elim (meets.later at.0 q at.1) [
                | inl both ↦ elim both.1 [ inl u ↦ is_found after third.start q u | inr u ↦ is_found after second.start q u ]
                | inr both ↦ is_found after at.0 q both.0
              ]

          pub racing_meets : Races cs last found end
          racing_meets = record {
            placed = record {
              own = λ h q u. elim (meets.later h q u) [
                | inl both ↦ subst (λ x. IsUnder end x x) (sym both.0) last_there
                | inr both ↦ meets.kept h h (placed_after.own h q both.0) both.1.0 both.1.1
              ];
              sound = λ h q u. elim (meets.later h q u) [
                | inl both ↦ subst (λ x. InGroup cs x q) (sym both.0) (elim both.1 [
                  | inl v ↦ group_trans cs last.start third.start q to_third (placed_after.sound third.start q v)
                  | inr v ↦ group_trans cs last.start third.start q to_third (group_trans cs third.start second.start q chain (placed_after.sound second.start q v))
                ])
                | inr both ↦ placed_after.sound h q both.0
              ];
            };
            linked = λ k q n f. elim (linked_after k q n (found_before k f)) [
              | inl w ↦ inl (subst (λ ks. Contains ks k) (sym meets.waiting) (elim w [
                | inl c ↦ Contains-append_left third.waiting.items second.waiting.items k c
                | inr c ↦ Contains-append_right third.waiting.items second.waiting.items k c
              ]))
              | inr either ↦ inr (elim either [
                | inl t ↦ kept_end t.0 k q t.1 t.2
                | inr e ↦ (
                  last.start,
                  meets.joined k (inl (subst (IsUnder after third.start) (sym e) key_third)),
                  meets.joined q (both_under q (subst (λ x. IsNeighbour (get cs) x q) e n)),
                )
              ])
            ];
            search = record {
              row = meets.row;
              waits = λ q c. meets.joined q (elim (Contains-append_cases third.waiting.items second.waiting.items q (subst (λ ks. Contains ks q) meets.waiting c)) [
                | inl b ↦ inl (third_search.waits q b)
                | inr b ↦ inr (second_search.waits q b)
              ]);
            };
            there = last_there;
            kept = λ q f.
                let at = head_of (head_at after q) (kept_after q f) in
                let t = kept_end at.0 q q at.1 at.1 in
                is_found end t.0 q t.1;
          }

          pub met_count : (then : IndexData) → Grows (λ q. ⊥) after end → then.asked ≤ now.asked + 1 → length third.waiting.items + length mid ≤ length rest + length after
              → then.asked + length last.waiting.items + length found ≤ most + length end
          met_count then more once few =
              let long : length first.waiting.items ≡ suc (length rest) = ap length are in
              let all : length last.waiting.items ≡ length third.waiting.items + length second.waiting.items = ap length meets.waiting ∙ length-append third.waiting.items second.waiting.items in
              let was = racing.count in
              let grown = more.more in
              omega arith

-- a search begins
module _ (cs : Conductors) (key : Key) (next : Search) (found after : Heads) (begins : Begins key next found after) (placed : IsPlaced cs found) (there : IsSome (get cs key)) (none : head_at found key ≡ None) where
  pub placed_begun : IsPlaced cs after
  placed_begun = record {
    own = λ h q u. elim (begins.later h q u) [
      | inl o ↦ begins.kept h h (placed.own h q o)
      | inr both ↦ subst (λ x. IsUnder after x x) (sym both.0) begins.here
    ];
    sound = λ h q u. elim (begins.later h q u) [
      | inl o ↦ placed.sound h q o
      | inr both ↦ subst (InGroup cs h) (both.0 ∙ sym both.1) (group_itself cs h (ap (λ x. is_some (get cs x)) both.0 ∙ there))
    ];
  }

  pub search_begun : IsSearch next after
  search_begun = begins.search (λ q u. under_none found key key none (placed.own key q u))

  pub there_begun : IsUnder after next.start next.start
  there_begun = subst (λ x. IsUnder after x x) (sym begins.start) begins.here

  module _ (last : Search) (search : IsSearch last found) (last_there : IsUnder found last.start last.start) where
    pub start_apart : next.start ≢ last.start
    start_apart e = under_none found last.start last.start (ap (head_at found) (sym e ∙ begins.start) ∙ none) last_there

    pub search_last : IsSearch last after
    search_last = record {
      row = λ q. (
        (λ c. begins.kept last.start q ((search.row q).0 c)),
        (λ u. elim (begins.later last.start q u) [
          | inl o ↦ (search.row q).1 o
          | inr both ↦ absurd (start_apart (begins.start ∙ sym both.0))
        ]),
      );
      waits = λ q c. begins.kept last.start q (search.waits q c);
    }

    pub linked_begun : AreLinked cs (Contains last.waiting.items) found → AreLinked cs (λ q. Contains last.waiting.items q ⊎ Contains next.waiting.items q) after
    linked_begun linked k q n f = elim (begins.news k f) [
      | inl o ↦ elim (linked k q n o) [ inl c ↦ inl (inl c) | inr t ↦ inr (t.0, begins.kept t.0 k t.1, begins.kept t.0 q t.2) ]
      | inr c ↦ inl (inr c)
    ]

pub placed_none : (cs : Conductors) (found : Heads) → found ≡ [] → IsPlaced cs found
placed_none cs found none = record { own = λ h q u. absurd (never h q u); sound = λ h q u. absurd (never h q u) }
  where
    never : (h q : Key) → IsUnder found h q → ⊥
    never h q u = under_none found h q (ap (λ es. head_at es q) none) u

pub unique_none : (found : Heads) → found ≡ [] → AreUnique found
unfolding IsDistinct
unique_none found none = subst (λ (es : Heads). IsDistinct is_same_key (keys_of es)) (sym none) tt

pub none_found : (found : Heads) (q : Key) → is_some (head_at found q) ≡ false → head_at found q ≡ None
none_found found q e = go (head_at found q) e
  where
    go : (o : Option Key) → is_some o ≡ false → o ≡ None
    go None f = refl
    go (Some h) f = absurd (cc)

pub first_in : (ks : List Key) (k : Key) → Some k ≡ slice_get ks 0 → Contains ks k
first_in [] k e = let p : Some k ≡ None = e in absurd (cc)
first_in (x ∷ ks) k e = (0, omega arith, sym (ap (λ o. unwrap_or o k) e))

-- searches from some keys
module _ (cs : Conductors) (near : List Key) where
  pub searching_begins : (before : IndexData) (key : Key) (last : Search) (found mid : Heads) → found ≡ [] → Contains near key → IsSome (get cs key) → AreUnique mid → Grows (λ q. q ≡ key) found mid → Begins key last found mid
      → length last.waiting.items + length found ≤ length mid → IsSearching cs before before near [] last mid
  searching_begins before key last found mid none here there unique grows begins few = record {
    same = refl;
    unique = unique;
    reached = λ q f. elim (grows.later q f) [
      | inl o ↦ absurd (never q o)
      | inr e ↦ (key, here, subst (InGroup cs key) (sym e) (group_itself cs key there))
    ];
    placed = placed_begun cs key last found mid begins (placed_none cs found none) there at_key;
    linked = λ k q n f. elim (begins.news k f) [ inl o ↦ absurd (never k o) | inr c ↦ inl c ];
    search = search_begun cs key last found mid begins (placed_none cs found none) there at_key;
    there = there_begun cs key last found mid begins (placed_none cs found none) there at_key;
    starts = λ q c. absurd (none_in q c);
    count = omega arith;
  }
    where
      at_key : head_at found key ≡ None
      at_key = ap (λ es. head_at es key) none

      never : (q : Key) → IsFound found q → ⊥
      never q f = let at = head_of (head_at found q) f in under_none found at.0 q (ap (λ es. head_at es q) none) at.1

  module _ (i : ℕ) (d : Key) (inside : i < length near) (before now : IndexData) (last : Search) (mid : Heads) (searching : IsSearching cs before now near (take i near) last mid) where
    -- the next key was found before
    pub searching_past : IsFound mid (get_or near i d) → IsSearching cs before now near (take (i + 1) near) last mid
    searching_past f = record {
      same = searching.same;
      unique = searching.unique;
      reached = searching.reached;
      placed = searching.placed;
      linked = searching.linked;
      search = searching.search;
      there = searching.there;
      starts = λ q c. elim (first_cases near i d inside q c) [ inl b ↦ searching.starts q b | inr e ↦ subst (IsFound mid) (sym e) f ];
      count = searching.count;
    }

    -- a search begins at the next key
    module _ (one : Heads) (grows : Grows (λ q. q ≡ get_or near i d) mid one) (there : IsSome (get cs (get_or near i d))) where
      abbrev begin : Key
      begin = get_or near i d

      pub begun_reached : (q : Key) → IsFound one q → IsReached cs near q
      begun_reached q f = elim (grows.later q f) [
        | inl o ↦ searching.reached q o
        | inr e ↦ (begin, Contains-get_or near i d inside, subst (InGroup cs begin) (sym e) (group_itself cs begin there))
      ]

      pub raced_reached : (new : Heads) → Grows (Reaches cs one) one new → (q : Key) → IsFound new q → IsReached cs near q
      raced_reached new more q f = elim (more.later q f) [
        | inl o ↦ begun_reached q o
        | inr r ↦ let from = begun_reached r.0 r.1 in (from.0, from.1, group_trans cs from.0 r.0 q from.2 r.2)
      ]

      pub searching_more : (next : Search) (then : IndexData) (best : Search) (new : Heads) → Begins begin next mid one → then.conductors ≡ now.conductors → Grows (Reaches cs one) one new → Races cs best one new
          → length next.waiting.items + length mid ≤ length one
          → then.asked + length best.waiting.items + length one ≤ now.asked + (length last.waiting.items + length next.waiting.items) + length new
          → IsSearching cs before then near (take (i + 1) near) best new
      searching_more next then best new begins same more races few count = record {
        same = same ∙ searching.same;
        unique = more.unique (grows.unique searching.unique);
        reached = raced_reached new more;
        placed = races.placed;
        linked = races.linked;
        search = races.search;
        there = races.there;
        starts = λ q c. races.kept q (elim (first_cases near i d inside q c) [
          | inl b ↦ let at = head_of (head_at mid q) (searching.starts q b) in is_found one at.0 q (begins.kept at.0 q at.1)
          | inr e ↦ subst (IsFound one) (sym e) (is_found one begin begin begins.here)
        ]);
        count = let was = searching.count in omega arith;
      }

  pub searching_ends : (before now : IndexData) (last : Search) (found : Heads) → IsSearching cs before now near near last found → Searches cs near (Some last.start) found
  searching_ends before now last found searching = record {
    placed = searching.placed;
    linked = λ k q n f. elim (searching.linked k q n f) [ inl c ↦ inl (searching.search.waits k c) | inr t ↦ inr t ];
    starts = searching.starts;
  }
