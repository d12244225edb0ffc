-- Keys with their places, while each further place of a key is paired with the first.
use Rattle.std.proofs.Common.{◌≡◌, ◌⊎◌, ℕ, zero, suc, ◌+◌, ◌<◌, ◌≤◌, Bool, true, false, cond, List, [], ◌∷◌, ◌++◌, Option, Some, None, length, get_or, refl, sym, ap, subst, take, ◌∙◌, inl, inr, arith}
use Rattle.std.specs.Bool.{Decides}
use Rattle.std.specs.Prelude.{Contains}
use Rattle.std.specs.Map.{update}
use Rattle.std.specs.Option.{option_or}
use Rattle.std.proofs.lemmas.List.{append-nil, append_assoc, get_or-map, length-map, length-take, take_all, take_more}
use Rattle.std.proofs.lemmas.List.Elements.{All-from_get_or, Contains-get_or, Contains-append_left, Contains-append_right, Contains-append_cases, Contains-push, Contains-push_cases}
use Rattle.flat_rows.specs.Conductors.{FlatConductor}
use Rattle.link_classes.specs.Links.{AtPlaces, names_of}
use Rattle.flat_rows.specs.Keyed.{Keyed, keyed_at, keyed_from}
use Rattle.link_classes.specs.steps.FirstPlaces.{AddsKey, ShareKey, TiesKeys, pair_with}
use Rattle.pair_classes.specs.Pairs.{IsSameAt, Spans}
use Rattle.pair_classes.proofs.LabelLemmas.{joined_by}
use Rattle.link_classes.proofs.ListLemmas.{no_conductor}

pub option_or-none : (o : Option ℕ) → option_or o None ≡ o
option_or-none None = refl
option_or-none (Some v) = refl

module _ {K : Type 0} (same_key : K → K → Bool) (tells : (a b : K) → Decides (same_key a b) (a ≡ b)) (key : K) (place : ℕ) (old new : K → Option ℕ) where
  -- a key that had no place is added
  pub AddsKey-from_update : old key ≡ None → ((q : K) → new q ≡ update same_key old key (Some place) q) → AddsKey same_key key place old new
  AddsKey-from_update free updates q = by (same_key key q) refl
    where
      by : (b : Bool) → same_key key q ≡ b → new q ≡ option_or (old q) (cond (same_key key q) (Some place) None)
      by true e =
          let none : old q ≡ None = subst (λ (k : K). old k ≡ None) ((tells key q).0 e) free in
          updates q ∙ rw (e, none) refl
      by false e = updates q ∙ rw (e, option_or-none (old q)) refl

  module _ (adds : AddsKey same_key key place old new) where
    -- a key keeps its first place
    keeps : (q : K) (p : ℕ) → old q ≡ Some p → new q ≡ Some p
    keeps q p e = adds q ∙ rw e refl

    -- a first place is an old one, or the new one
    found : (q : K) (p : ℕ) → new q ≡ Some p → (old q ≡ Some p) ⊎ ((old key ≡ None) × (key ≡ q) × (place ≡ p))
    found q p e = by (old q) (same_key key q) refl refl
      where
        by : (o : Option ℕ) (b : Bool) → old q ≡ o → same_key key q ≡ b → (old q ≡ Some p) ⊎ ((old key ≡ None) × (key ≡ q) × (place ≡ p))
        by (Some v) b same is = inl (same ∙ sym (adds q ∙ rw same refl) ∙ e)
        by None true same is =
            let there : Some place ≡ Some p = sym (adds q ∙ rw (same, is) refl) ∙ e in
            let equal : key ≡ q = (tells key q).0 is in
            inr (subst (λ (k : K). old k ≡ None) (sym equal) same, equal, cc)
        by None false same is = absurd (let h : None ≡ Some p = sym (adds q ∙ rw (same, is) refl) ∙ e in cc)

    -- the key has a first place now
    has : (o : Option ℕ) → old key ≡ o → (p : ℕ) × (new key ≡ Some p) × ((p ≡ place) ⊎ Contains (pair_with o place) (p, place))
    has None e = (place, adds key ∙ rw (e, (tells key key).1 refl) refl, inl refl)
    has (Some p) e = (p, keeps key p e, inr (Contains-push [] (p, place)))

    paired : (o : Option ℕ) (i j : ℕ) → Contains (pair_with o place) (i, j) → (o ≡ Some i) × (place ≡ j)
    paired None i j c = absurd (let h = c.1 in omega arith)
    paired (Some p) i j c = elim (Contains-push_cases [] (p, place) (i, j) c) [
      | inl none ↦ absurd (let h = none.1 in omega arith)
      | inr e ↦ (ap (λ (x : ℕ × ℕ). Some x.0) e, ap (λ (x : ℕ × ℕ). x.1) e)
    ]

    -- with one more key
    pub ties_more : (pairs : List (ℕ × ℕ)) (keyed : List (Keyed K)) → TiesKeys old pairs keyed
        → TiesKeys new (pairs ++ pair_with (old key) place) (keyed ++ (key, place) ∷ [])
    ties_more pairs keyed ties = record {
      from = λ q p e. elim (found q p e) [
        | inl same ↦ Contains-append_left keyed ((key, place) ∷ []) (q, p) (ties.from q p same)
        | inr here ↦ subst (λ (k : K). Contains (keyed ++ (key, place) ∷ []) (k, p)) here.1
            (subst (λ (k : ℕ). Contains (keyed ++ (key, place) ∷ []) (key, k)) here.2 (Contains-push keyed (key, place)))
      ];
      inside = λ i j c. elim (Contains-append_cases pairs (pair_with (old key) place) (i, j) c) [
        | inl before ↦
            let h = ties.inside i j before in
            (h.0, Contains-append_left keyed ((key, place) ∷ []) (h.0, i) h.1, Contains-append_left keyed ((key, place) ∷ []) (h.0, j) h.2)
        | inr now ↦
            let h = paired (old key) i j now in (
              key,
              Contains-append_left keyed ((key, place) ∷ []) (key, i) (ties.from key i h.0),
              subst (λ (k : ℕ). Contains (keyed ++ (key, place) ∷ []) (key, k)) h.1 (Contains-push keyed (key, place)),
            )
      ];
      covers = λ q i c. elim (Contains-push_cases keyed (key, place) (q, i) c) [
        | inl before ↦
            let h = ties.covers q i before in
            (h.0, keeps q h.0 h.1, elim h.2 [ inl e ↦ inl e | inr pair ↦ inr (Contains-append_left pairs (pair_with (old key) place) (h.0, i) pair) ])
        | inr e ↦
            let same : key ≡ q = ap (λ (n : Keyed K). n.0) e in
            let there : place ≡ i = ap (λ (n : Keyed K). n.1) e in
            let h = has (old key) refl in
            subst (λ (k : K). (p : ℕ) × (new k ≡ Some p) × ((p ≡ i) ⊎ Contains (pairs ++ pair_with (old key) place) (p, i))) same
            (subst (λ (k : ℕ). (p : ℕ) × (new key ≡ Some p) × ((p ≡ k) ⊎ Contains (pairs ++ pair_with (old key) place) (p, k))) there
            (h.0, h.1, elim h.2 [ inl e ↦ inl e | inr pair ↦ inr (Contains-append_right pairs (pair_with (old key) place) (h.0, place) pair) ]))
      ];
    }

-- the same, of the map that was written at the key
pub AddsKey-from_written : {K M : Type 0} (same_key : K → K → Bool) (tells : (a b : K) → Decides (same_key a b) (a ≡ b)) (key : K) (place : ℕ) (old : K → Option ℕ) (at : M → K → Option ℕ)
    → (written new : M) (value : ℕ) → ((q : K) → at written q ≡ update same_key old key (Some value) q) → value ≡ place → old key ≡ None → new ≡ written → AddsKey same_key key place old (at new)
AddsKey-from_written {K} {M} same_key tells key place old at written new value updates is free e =
    AddsKey-from_update same_key tells key place old (at new) free (λ q. ap (λ (m : M). at m q) e ∙ updates q ∙ ap (λ (v : ℕ). update same_key old key (Some v) q) is)

module _ {K : Type 0} where
  -- a key at a place is a key of the conductor there
  at_has : (place : ℕ) (ks : List K) (q : K) (i : ℕ) → Contains (keyed_at place ks) (q, i) → (place ≡ i) × Contains ks q
  at_has place ks q i c =
      let f : K → Keyed K = λ n. (n, place) in
      let lt : c.0 < length ks = rw length-map at c.1 in
      let is : ◌≡◌ {A = Keyed K} (get_or ks c.0 q, place) (q, i) = sym (get_or-map f ks c.0 q (q, i) lt) ∙ c.2 in
      (ap (λ (n : Keyed K). n.1) is, (c.0, lt, ap (λ (n : Keyed K). n.0) is))

  has_at : (place : ℕ) (ks : List K) (q : K) → Contains ks q → Contains (keyed_at place ks) (q, place)
  has_at place ks q c =
      let f : K → Keyed K = λ n. (n, place) in
      (c.0, rw length-map c.1, get_or-map f ks c.0 q (q, place) c.1 ∙ ap f c.2)

module _ {K : Type 0} (keys : FlatConductor → List K) where
  -- the keys of conductors, and those of further ones
  keyed_append : (place : ℕ) (fs gs : List FlatConductor) → keyed_from keys place (fs ++ gs) ≡ keyed_from keys place fs ++ keyed_from keys (place + length fs) gs
  keyed_append place [] gs = ap (λ (n : ℕ). keyed_from keys n gs) (omega arith)
  keyed_append place (f ∷ fs) gs =
      ap (λ (ns : List (Keyed K)). keyed_at place (keys f) ++ ns) (keyed_append (place + 1) fs gs)
      ∙ sym (append_assoc (keyed_at place (keys f)) (keyed_from keys (place + 1) fs) (keyed_from keys (place + 1 + length fs) gs))
      ∙ ap (λ (n : ℕ). (keyed_at place (keys f) ++ keyed_from keys (place + 1) fs) ++ keyed_from keys n gs) (omega arith)

  pub keyed_next : (fs : List FlatConductor) (k : ℕ) (f : FlatConductor) → k < length fs → f ≡ get_or fs k f → keyed_from keys 0 (take k fs) ++ keyed_at k (keys f) ≡ keyed_from keys 0 (take (k + 1) fs)
  keyed_next fs k f h is =
      let len : length (take k fs) ≡ k = length-take k fs ∙ omega arith in
      let whole : take (k + 1) fs ≡ take k fs ++ f ∷ [] = take_more fs k f h ∙ ap (λ (x : FlatConductor). take k fs ++ x ∷ []) (sym is) in
      sym (ap (keyed_from keys 0) whole ∙ keyed_append 0 (take k fs) (f ∷ [])
      ∙ ap (λ (ns : List (Keyed K)). keyed_from keys 0 (take k fs) ++ ns) (append-nil (keyed_at (0 + length (take k fs)) (keys f)) ∙ ap (λ (n : ℕ). keyed_at n (keys f)) (omega (arith, len))))

  -- with one more conductor
  pub ties_next : (first : K → Option ℕ) (pairs : List (ℕ × ℕ)) (fs : List FlatConductor) (k : ℕ) (f : FlatConductor) → k < length fs → f ≡ get_or fs k f
      → TiesKeys first pairs (keyed_from keys 0 (take k fs) ++ keyed_at k (keys f)) → TiesKeys first pairs (keyed_from keys 0 (take (k + 1) fs))
  ties_next first pairs fs k f h is ties = subst (TiesKeys first pairs) (keyed_next fs k f h is) ties

  -- what has a key at a place, and the other way round
  keyed_has : (place : ℕ) (fs : List FlatConductor) (q : K) (i : ℕ) (d : FlatConductor) → Contains (keyed_from keys place fs) (q, i)
      → (k : ℕ) × (i ≡ place + k) × (k < length fs) × Contains (keys (get_or fs k d)) q
  keyed_has place [] q i d c = absurd (let h = c.1 in omega arith)
  keyed_has place (f ∷ fs) q i d c = elim (Contains-append_cases (keyed_at place (keys f)) (keyed_from keys (place + 1) fs) (q, i) c) [
    | inl here ↦ let h = at_has place (keys f) q i here in let e = h.0 in (0, omega arith, omega arith, h.1)
    | inr there ↦ let h = keyed_has (place + 1) fs q i d there in let e = h.1 in let lt = h.2 in (suc h.0, omega arith, omega arith, h.3)
  ]

  has_keyed : (place : ℕ) (fs : List FlatConductor) (q : K) (k : ℕ) (d : FlatConductor) → k < length fs → Contains (keys (get_or fs k d)) q
      → Contains (keyed_from keys place fs) (q, place + k)
  has_keyed place [] q k d h c = absurd (omega arith)
  has_keyed place (f ∷ fs) q zero d h c =
      subst (λ (n : ℕ). Contains (keyed_from keys place (f ∷ fs)) (q, n)) (omega arith)
      (Contains-append_left (keyed_at place (keys f)) (keyed_from keys (place + 1) fs) (q, place) (has_at place (keys f) q c))
  has_keyed place (f ∷ fs) q (suc k) d h c =
      subst (λ (n : ℕ). Contains (keyed_from keys place (f ∷ fs)) (q, n)) (omega arith)
      (Contains-append_right (keyed_at place (keys f)) (keyed_from keys (place + 1) fs) (q, place + 1 + k) (has_keyed (place + 1) fs q k d (omega arith) c))

  -- the conductor there has the key
  pub has_key : (fs : List FlatConductor) (q : K) (i : ℕ) (d : FlatConductor) → i < length fs → Contains (keys (get_or fs i d)) q → Contains (keyed_from keys 0 fs) (q, i)
  has_key fs q i d h c = subst (λ (n : ℕ). Contains (keyed_from keys 0 fs) (q, n)) (omega arith) (has_keyed 0 fs q i d h c)

  pub keyed_there : (fs : List FlatConductor) (q : K) (i : ℕ) → Contains (keyed_from keys 0 fs) (q, i) → (i < length fs) × ((d : FlatConductor) → Contains (keys (get_or fs i d)) q)
  keyed_there fs q i c =
      let lt : i < length fs = let h = keyed_has 0 fs q i no_conductor c in let a = h.1 in let b = h.2 in omega arith in
      (lt, λ d. let h = keyed_has 0 fs q i d c in let e : h.0 ≡ i = let a = h.1 in omega arith in subst (λ (n : ℕ). Contains (keys (get_or fs n d)) q) e h.3)

  -- pairs of places with keys stand for keys in common
  pub spans_keys : (first : K → Option ℕ) (pairs : List (ℕ × ℕ)) (fs : List FlatConductor) → TiesKeys first pairs (keyed_from keys 0 fs)
      → Spans (AtPlaces (ShareKey keys) fs) (length fs) pairs
  spans_keys first pairs fs ties = record {
    within = All-from_get_or (λ p. (p.0 < length fs) × (p.1 < length fs)) pairs (0, 0) (λ k h.
        let p = get_or pairs k (0, 0) in
        let at = link p.0 p.1 (Contains-get_or pairs k (0, 0) h) in
        (at.first, at.second));
    inside = λ i j tied. elim tied [
      | inl c ↦ joined_by (AtPlaces (ShareKey keys) fs) i j (link i j c)
      | inr c ↦ joined_by (AtPlaces (ShareKey keys) fs) i j (share_turn (link j i c))
    ];
    covers = λ f same i j at.
        let share = at.related no_conductor in
        let one = ties.covers share.0 i (has_key fs share.0 i no_conductor at.first share.1) in
        let two = ties.covers share.0 j (has_key fs share.0 j no_conductor at.second share.2) in
        let meet : one.0 ≡ two.0 = let h : Some one.0 ≡ Some two.0 = sym one.1 ∙ two.1 in cc in
        sym (own f same one.0 i one.2) ∙ ap f meet ∙ own f same two.0 j two.2;
  }
    where
      share_turn : {a b : ℕ} → AtPlaces (ShareKey keys) fs a b → AtPlaces (ShareKey keys) fs b a
      share_turn at = record { first = at.second; second = at.first; related = λ d. let share = at.related d in (share.0, share.2, share.1) }

      link : (i j : ℕ) → Contains pairs (i, j) → AtPlaces (ShareKey keys) fs i j
      link i j c =
          let h = ties.inside i j c in
          let one = keyed_there fs h.0 i h.1 in
          let two = keyed_there fs h.0 j h.2 in
          record { first = one.0; second = two.0; related = λ d. (h.0, one.1 d, two.1 d) }

      own : (f : ℕ → ℕ) → IsSameAt f pairs → (p i : ℕ) → (p ≡ i) ⊎ Contains pairs (p, i) → f p ≡ f i
      own f same p i at = elim at [ inl e ↦ ap f e | inr c ↦ same p i (inl c) ]

  -- so they do when all conductors have been taken
  pub spans_all : (first : K → Option ℕ) (pairs : List (ℕ × ℕ)) (fs : List FlatConductor) (k : ℕ) → length fs ≤ k → TiesKeys first pairs (keyed_from keys 0 (take k fs))
      → Spans (AtPlaces (ShareKey keys) fs) (length fs) pairs
  spans_all first pairs fs k h ties = spans_keys first pairs fs (subst (λ (xs : List FlatConductor). TiesKeys first pairs (keyed_from keys 0 xs)) (take_all k fs h) ties)

-- the same pairs tie keys that stand in another order
ties_like : {K : Type 0} (first : K → Option ℕ) (pairs : List (ℕ × ℕ)) (xs ys : List (Keyed K)) → ((q : K) (i : ℕ) → Contains xs (q, i) → Contains ys (q, i)) → ((q : K) (i : ℕ) → Contains ys (q, i) → Contains xs (q, i))
    → TiesKeys first pairs xs → TiesKeys first pairs ys
ties_like first pairs xs ys to back ties = record {
  from = λ q p e. to q p (ties.from q p e);
  inside = λ i j c. let h = ties.inside i j c in (h.0, to h.0 i h.1, to h.0 j h.2);
  covers = λ q i c. ties.covers q i (back q i c);
}

abbrev global : FlatConductor → List (List ℕ)
global f = f.global_names

abbrev local : FlatConductor → List (List ℕ)
local f = f.drawn_names

-- names that are drawn behind global ones tie all names
pub ties_names : (first : List ℕ → Option ℕ) (pairs : List (ℕ × ℕ)) (fs : List FlatConductor) (globals drawn : List (Keyed (List ℕ)))
    → globals ≡ keyed_from (λ f. f.global_names) 0 fs → drawn ≡ keyed_from (λ f. f.drawn_names) 0 fs → TiesKeys first pairs (globals ++ drawn) → TiesKeys first pairs (keyed_from names_of 0 fs)
ties_names first pairs fs globals drawn are_global are_drawn ties =
    ties_like first pairs (keyed_from global 0 fs ++ keyed_from local 0 fs) (keyed_from names_of 0 fs) to back (rw (are_global, are_drawn) at ties)
  where
    to : (q : List ℕ) (i : ℕ) → Contains (keyed_from global 0 fs ++ keyed_from local 0 fs) (q, i) → Contains (keyed_from names_of 0 fs) (q, i)
    to q i c = elim (Contains-append_cases (keyed_from global 0 fs) (keyed_from local 0 fs) (q, i) c) [
      | inl one ↦
          let h = keyed_there global fs q i one in
          has_key names_of fs q i no_conductor h.0 (Contains-append_left (global (get_or fs i no_conductor)) (local (get_or fs i no_conductor)) q (h.1 no_conductor))
      | inr other ↦
          let h = keyed_there local fs q i other in
          has_key names_of fs q i no_conductor h.0 (Contains-append_right (global (get_or fs i no_conductor)) (local (get_or fs i no_conductor)) q (h.1 no_conductor))
    ]

    back : (q : List ℕ) (i : ℕ) → Contains (keyed_from names_of 0 fs) (q, i) → Contains (keyed_from global 0 fs ++ keyed_from local 0 fs) (q, i)
    back q i c =
        let h = keyed_there names_of fs q i c in
        elim (Contains-append_cases (global (get_or fs i no_conductor)) (local (get_or fs i no_conductor)) q (h.1 no_conductor)) [
          | inl one ↦ Contains-append_left (keyed_from global 0 fs) (keyed_from local 0 fs) (q, i) (has_key global fs q i no_conductor h.0 one)
          | inr other ↦ Contains-append_right (keyed_from global 0 fs) (keyed_from local 0 fs) (q, i) (has_key local fs q i no_conductor h.0 other)
        ]
