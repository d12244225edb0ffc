-- The first places of groups in the present instance, noted by the rows of the groups.
use Rattle.std.proofs.Common.{arith, ◌≡◌, ◌<◌, ◌≤◌, ◌+◌, ◌==◌, ℕ, zero, suc, Bool, true}
use Rattle.std.proofs.Common.{false, cond, nat_lt, List, [], ◌∷◌, ◌++◌, Option, Some, None, is_some}
use Rattle.std.proofs.Common.{length, get_or, set, take, replicate, ap, ap₂, sym, subst, refl, ◌∙◌}
use Rattle.std.proofs.Common.{inl, inr, append-nil, eqb-true, lt-ltb, le-ltb, ltb-false}
use Rattle.std.proofs.Common.{get_or-set_same, get_or-set_other, length-set}
use Rattle.std.specs.List.Sorted.{IsStrictlySortedBy}
use Rattle.std.specs.Map.{keys_of}
use Rattle.std.specs.Option.{option_map, option_or, option_to_list}
use Rattle.std.proofs.lemmas.Bool.{eqb-false, false_from_ne_true}
use Rattle.std.proofs.lemmas.Bool.Decides.{Decides-eqb, Decides-like, same_from_decides}
use Rattle.std.proofs.lemmas.List.{length-replicate}
use Rattle.flat_rows.specs.Conductors.{FlatConductor}
use Rattle.flat_rows.specs.Keyed.{Keyed, keyed_at, keyed_from}
use Rattle.flat_rows.specs.declared.rows.FlatRow.{FlatRow}
use Rattle.geda_geom.specs.Keys.{by_key}
use Rattle.geda_geom.specs.declared.conductor.Key.{Key}
use Rattle.link_classes.specs.InstanceGroups.{AreInstanceGroups, Groups, groups_by}
use Rattle.link_classes.specs.Links.{AreTouching, AtPlaces}
use Rattle.link_classes.specs.declared.runs.RunPlaces.{RunPlaces}
use Rattle.link_classes.specs.steps.FirstPlaces.{TiesKeys, pair_with}
use Rattle.link_classes.specs.steps.GroupPlaces.{InstanceGroup, groups_of, row_group, same_group}
use Rattle.link_classes.specs.steps.GroupRows.{IsRow}
use Rattle.link_classes.specs.steps.RunPlaces.{AreNone, Enters, Keeps, Marks, Ties, marked, noted}
use Rattle.link_classes.specs.steps.RunPlaces.{noted_in}
use Rattle.link_classes.proofs.FirstPlaceLemmas.{keyed_next, option_or-none, spans_all, ties_more}
use Rattle.link_classes.proofs.GroupLemmas.{same_group-Decides, spans_touching}
use Rattle.link_classes.proofs.RowLemmas.{one_row}
use Rattle.pair_classes.specs.Pairs.{Spans}

-- a row where a list has none
abbrev pub no_row : Key × Key
no_row = (record { id = 0; place = 0 }, record { id = 0; place = 0 })

-- an entry up to the start says no place
noted_none : (start : ℕ) (es : List ℕ) (k : ℕ) → get_or es k 0 ≤ start → noted_in start es k ≡ None
noted_none start es k low = rw (le-ltb start (get_or es k 0) low) refl

-- one behind it says one
noted_some : (start : ℕ) (es : List ℕ) (k place : ℕ) → start ≤ place → get_or es k 0 ≡ place + 1
    → noted_in start es k ≡ Some place
noted_some start es k place low is =
    rw (is, lt-ltb start (place + 1) (omega arith)) (ap Some (omega arith))

module _ (start at place : ℕ) (es : List ℕ) (low : start ≤ place) (within : at < length es) where
  -- a row without a place gets this one, and all others stay
  noted-marked : (k : ℕ)
      → noted_in start (marked start at place es) k
      ≡ option_or (noted_in start es k) (cond (at == k) (Some place) None)
  noted-marked k = by (nat_lt start (get_or es at 0)) (at == k) refl refl
    where
      by : (b c : Bool) → nat_lt start (get_or es at 0) ≡ b → (at == k) ≡ c
          → noted_in start (marked start at place es) k
          ≡ option_or (noted_in start es k) (cond (at == k) (Some place) None)
      by true true e f =
          let there : nat_lt start (get_or es k 0) ≡ true =
          subst (λ (n : ℕ). nat_lt start (get_or es n 0) ≡ true) (eqb-true at k f) e in
          rw (e, there) refl
      by true false e f = rw (e, f) (sym (option_or-none (noted_in start es k)))
      by false true e f =
          let same : at ≡ k = eqb-true at k f in
          let now : get_or (set es at (place + 1)) k 0 ≡ place + 1 =
          subst (λ (n : ℕ). get_or (set es at (place + 1)) n 0 ≡ place + 1) same
          (get_or-set_same es at (place + 1) 0 within) in
          let none : noted_in start es k ≡ None =
          subst (λ (n : ℕ). noted_in start es n ≡ None) same
          (noted_none start es at (ltb-false start (get_or es at 0) e)) in
          let some : noted_in start (set es at (place + 1)) k ≡ Some place =
          noted_some start (set es at (place + 1)) k place low now in
          rw (e, f, none) some
      by false false e f =
          let other : get_or (set es at (place + 1)) k 0 ≡ get_or es k 0 =
          get_or-set_other es at k (place + 1) 0 (λ (s : k ≡ at). eqb-false at k f (sym s)) in
          rw (e, f, other) (sym (option_or-none (noted_in start es k)))

  -- there are as many entries
  length-marked : length (marked start at place es) ≡ length es
  length-marked = by (nat_lt start (get_or es at 0)) refl
    where
      by : (b : Bool) → nat_lt start (get_or es at 0) ≡ b
          → length (marked start at place es) ≡ length es
      by true e = rw e refl
      by false e = rw e (length-set es at (place + 1))

  -- none says a place from the next one on
  early-marked : ((k : ℕ) → get_or es k 0 ≤ place) → (k : ℕ)
      → get_or (marked start at place es) k 0 ≤ place + 1
  early-marked early k = by (nat_lt start (get_or es at 0)) (at == k) refl refl
    where
      by : (b c : Bool) → nat_lt start (get_or es at 0) ≡ b → (at == k) ≡ c
          → get_or (marked start at place es) k 0 ≤ place + 1
      by true c e f = rw e (let h = early k in omega arith)
      by false true e f =
          let now : get_or (set es at (place + 1)) k 0 ≡ place + 1 =
          subst (λ (n : ℕ). get_or (set es at (place + 1)) n 0 ≡ place + 1) (eqb-true at k f)
          (get_or-set_same es at (place + 1) 0 within) in
          rw (e, now) (omega arith)
      by false false e f =
          let other : get_or (set es at (place + 1)) k 0 ≡ get_or es k 0 =
          get_or-set_other es at k (place + 1) 0 (λ (s : k ≡ at). eqb-false at k f (sym s)) in
          rw (e, other) (let h = early k in omega arith)

zeros : (n k : ℕ) → ◌≡◌ {A = ℕ} (get_or (replicate n 0) k 0) 0
zeros zero k = refl
zeros (suc n) zero = refl
zeros (suc n) (suc k) = zeros n k

-- nothing is kept at first
pub keeps_none : (rows : List (Key × Key)) (p : RunPlaces) → AreNone (length rows) p
    → Keeps rows 0 p [] []
keeps_none rows p none = record {
  first = λ q. None;
  ties = record {
    from = λ q p e. absurd (cc);
    inside = λ i j c. absurd (let h = c.1 in omega arith);
    covers = λ q i c. absurd (let h = c.1 in omega arith);
  };
  now = λ j d lt. sym (noted_none p.start p.entries.items j (let h = zero_at j in omega arith));
  later = λ q lt. refl;
  long = ap (λ (es : List ℕ). length es) none.entries ∙ length-replicate (length rows) 0;
  low = let h = none.start in omega arith;
  early = λ j. let h = zero_at j in omega arith;
}
  where
    zero_at : (j : ℕ) → get_or p.entries.items j 0 ≡ 0
    zero_at j = ap (λ (es : List ℕ). get_or es j 0) none.entries ∙ zeros (length rows) j

module _ (rows : List (Key × Key)) where
  -- what is kept stays so at a later place
  keeps_on : (n : ℕ) (p : RunPlaces) (pairs : List (ℕ × ℕ)) (keyed : List (Keyed InstanceGroup))
      → Keeps rows n p pairs keyed → Keeps rows (n + 1) p pairs keyed
  keeps_on n p pairs keyed k = record {
    first = k.first;
    ties = k.ties;
    now = k.now;
    later = k.later;
    long = k.long;
    low = let h = k.low in omega arith;
    early = λ j. let h = k.early j in omega arith;
  }

  -- a conductor without a group changes nothing
  pub ties_none : (n : ℕ) (p : RunPlaces) (pairs : List (ℕ × ℕ)) (group : Option InstanceGroup)
      → group ≡ None → Ties rows n group p pairs p pairs
  ties_none n p pairs group none keyed k =
      let same : keyed ≡ keyed ++ keyed_at n (option_to_list group) = sym (append-nil keyed)
      ∙ ap (λ (o : Option InstanceGroup). keyed ++ keyed_at n (option_to_list o)) (sym none) in
      subst (λ (ks : List (Keyed InstanceGroup)). Keeps rows (n + 1) p pairs ks) same
      (keeps_on n p pairs keyed k)

  module _ (i n : ℕ) (old new : RunPlaces) (enters : Enters i n old new)
      (kept : new.entries.items ≡ old.entries.items) where
    -- in the instance that was entered
    keeps_entered : (pairs : List (ℕ × ℕ)) (keyed : List (Keyed InstanceGroup))
        → Keeps rows n old pairs keyed → Keeps rows n new pairs keyed
    keeps_entered pairs keyed k = record {
      first = k.first;
      ties = k.ties;
      now = λ j d lt. elim enters.start [
        | inl same ↦
            ap (λ (x : ℕ). k.first (x, (get_or rows j d).0)) (enters.instance ∙ sym same.0)
            ∙ k.now j d lt
            ∙ sym (ap₂ (λ (s : ℕ) (es : List ℕ). noted_in s es j) same.1 kept)
        | inr moved ↦
            let h = k.early j in
            let e = ap (λ (es : List ℕ). get_or es j 0) kept in
            let s = moved.1 in
            let early : get_or new.entries.items j 0 ≤ new.start = omega arith in
            k.later (new.instance, (get_or rows j d).0)
            (let e = enters.instance in let s = moved.0 in omega arith)
            ∙ sym (noted_none new.start new.entries.items j early)
      ];
      later = λ q lt. k.later q (rises lt);
      long = ap (λ (es : List ℕ). length es) kept ∙ k.long;
      low = starts;
      early = λ j.
          let h = k.early j in
          let e = ap (λ (es : List ℕ). get_or es j 0) kept in
          omega arith;
    }
      where
        rises : {x : ℕ} → new.instance < x → old.instance < x
        rises lt =
            let e = enters.instance in
            elim enters.start [
              | inl same ↦ let s = same.0 in omega arith
              | inr moved ↦ let s = moved.0 in omega arith
            ]

        starts : new.start ≤ n
        starts =
            let h = k.low in
            elim enters.start [
              | inl same ↦ let s = same.1 in omega arith
              | inr moved ↦ let s = moved.1 in omega arith
            ]

    -- what is tied there is tied from the one before
    pub ties_entered : (f : FlatRow) (pairs : List (ℕ × ℕ)) (after : RunPlaces)
        (more : List (ℕ × ℕ)) → i ≡ f.instance → is_some f.shape ≡ true
        → Ties rows n (option_map (λ group. (new.instance, group)) (groups_by rows f.key))
        new pairs after more
        → Ties rows n (row_group (groups_by rows) f) old pairs after more
    ties_entered f pairs after more here drawn ties keyed k =
        let group : option_map (λ group. (new.instance, group)) (groups_by rows f.key)
        ≡ row_group (groups_by rows) f = rw (enters.instance, here, drawn) refl in
        subst (λ (o : Option InstanceGroup). Keeps rows (n + 1) after more
        (keyed ++ keyed_at n (option_to_list o))) group
        (ties keyed (keeps_entered pairs keyed k))

  module _ (rising : IsStrictlySortedBy by_key (keys_of rows)) (n : ℕ) (old new : RunPlaces)
      (group : Key) (at : ℕ) (row : IsRow rows group at) (marks : Marks at n old new) where
    -- groups in an instance are one where their rows are
    same_row : (j : ℕ) (d : Key × Key) → j < length rows
        → same_group (old.instance, group) (old.instance, (get_or rows j d).0) ≡ (at == j)
    same_row j d lt =
        let key = (get_or rows j d).0 in
        let tells =
        Decides-like (same_group (old.instance, group) (old.instance, key)) one same
        (same_group-Decides (old.instance, group) (old.instance, key)) in
        same_from_decides (same_group (old.instance, group) (old.instance, key)) (at == j) tells
        (Decides-eqb at j)
      where
        one : ◌≡◌ {A = InstanceGroup} (old.instance, group) (old.instance, (get_or rows j d).0)
            → at ≡ j
        one e = one_row rows rising at j d row.within lt
            (row.is d ∙ ap (λ (g : InstanceGroup). g.1) e)

        same : at ≡ j
            → ◌≡◌ {A = InstanceGroup} (old.instance, group) (old.instance, (get_or rows j d).0)
        same e = ap (λ (k : Key). (old.instance, k))
            (sym (row.is d) ∙ ap (λ (k : ℕ). (get_or rows k d).0) e)

    -- with one more conductor of a group
    keeps_tied : (pairs : List (ℕ × ℕ)) (keyed : List (Keyed InstanceGroup))
        → Keeps rows n old pairs keyed
        → Keeps rows (n + 1) new (pairs ++ pair_with (noted old at) n)
        (keyed ++ ((old.instance, group), n) ∷ [])
    keeps_tied pairs keyed k = record {
      first = first;
      ties =
          let there : k.first (old.instance, group) ≡ noted old at =
          ap (λ (g : Key). k.first (old.instance, g)) (sym (row.is no_row))
          ∙ k.now at no_row row.within in
          subst (λ (o : Option ℕ). TiesKeys first (pairs ++ pair_with o n)
          (keyed ++ ((old.instance, group), n) ∷ [])) there
          (ties_more same_group same_group-Decides (old.instance, group) n k.first first
          (λ q. refl) pairs keyed k.ties);
      now = λ j d lt.
          let before : first (new.instance, (get_or rows j d).0)
          ≡ option_or (noted old j) (cond (at == j) (Some n) None) =
          ap (λ (x : ℕ). first (x, (get_or rows j d).0)) marks.instance
          ∙ ap₂ (λ (o : Option ℕ) (b : Bool). option_or o (cond b (Some n) None))
          (k.now j d lt) (same_row j d lt) in
          let after : noted new j ≡ option_or (noted old j) (cond (at == j) (Some n) None) =
          ap₂ (λ (s : ℕ) (es : List ℕ). noted_in s es j) marks.start marks.entries
          ∙ noted-marked old.start at n old.entries.items k.low within j in
          before ∙ sym after;
      later = λ q lt.
          let e = marks.instance in
          let later : old.instance < q.0 = omega arith in
          let tells = same_group-Decides (old.instance, group) q in
          let other : same_group (old.instance, group) q ≡ false =
          false_from_ne_true (same_group (old.instance, group) q) (λ same.
          let s : old.instance ≡ q.0 = ap (λ (g : InstanceGroup). g.0) (tells.0 same) in
          omega arith) in
          ap₂ (λ (o : Option ℕ) (b : Bool). option_or o (cond b (Some n) None))
          (k.later q later) other;
      long = ap (λ (es : List ℕ). length es) marks.entries
          ∙ length-marked old.start at n old.entries.items k.low within ∙ k.long;
      low = let h = k.low in let s = marks.start in omega arith;
      early = λ j.
          subst (λ (es : List ℕ). get_or es j 0 ≤ n + 1) (sym marks.entries)
          (early-marked old.start at n old.entries.items k.low within k.early j);
    }
      where
        first : InstanceGroup → Option ℕ
        first q = option_or (k.first q) (cond (same_group (old.instance, group) q) (Some n) None)

        within : at < length old.entries.items
        within = let h = k.long in let w = row.within in omega arith

    -- with one more conductor of a key in it
    pub ties_row : (pairs more : List (ℕ × ℕ)) (key : Key) → groups_by rows key ≡ Some group
        → more ≡ pairs ++ pair_with (noted old at) n
        → Ties rows n (option_map (λ group. (old.instance, group)) (groups_by rows key))
        old pairs new more
    ties_row pairs more key has is keyed k = rw (has, is) (keeps_tied pairs keyed k)

module _ (groups : Groups) (rows : List (Key × Key)) (cs : List FlatConductor) where
  -- with one more conductor
  pub keeps_next : (place : ℕ) (f : FlatConductor) (p : RunPlaces) (pairs : List (ℕ × ℕ))
      → place < length cs → f ≡ get_or cs place f
      → Keeps rows (place + 1) p pairs
      (keyed_from (groups_of groups) 0 (take place cs) ++ keyed_at place (groups_of groups f))
      → Keeps rows (place + 1) p pairs (keyed_from (groups_of groups) 0 (take (place + 1) cs))
  keeps_next place f p pairs lt is k =
      subst (λ (ks : List (Keyed InstanceGroup)). Keeps rows (place + 1) p pairs ks)
      (keyed_next (groups_of groups) cs place f lt is) k

  -- when all conductors have been taken, the pairs stand for all that touches
  pub keeps_all : (n : ℕ) (p : RunPlaces) (pairs : List (ℕ × ℕ)) → AreInstanceGroups cs groups
      → length cs ≤ n → Keeps rows n p pairs (keyed_from (groups_of groups) 0 (take n cs))
      → Spans (AtPlaces AreTouching cs) (length cs) pairs
  keeps_all n p pairs are all k =
      spans_touching groups cs pairs are
      (spans_all (groups_of groups) k.first pairs cs n all k.ties)
