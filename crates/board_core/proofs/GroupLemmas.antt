-- The classes of touching by labels, and the groups of each sheet.
use Rattle.std.proofs.Common.{◌≡◌, ◌≢◌, ◌⊎◌, inl, inr, ◌==◌, ℕ, zero, suc, ◌<◌, Bool, true, false, cond, List, [], ◌∷◌, Option, Some, None, is_some, length, get_or, refl, sym, ap, subst, ◌∙◌, arith}
use Rattle.std.specs.Prelude.{Contains}
use Rattle.std.specs.FinMap.{get}
use Rattle.std.specs.List.{AllByRecursion, count_by, slice_get}
use Rattle.std.specs.List.Sorted.{IsStrictlySortedBy}
use Rattle.std.specs.declared.cmp.Ordering.TheVariants.{Less}
use Rattle.std.proofs.lemmas.List.Sums.{sum_by-cons}
use Rattle.std.proofs.lemmas.Option.{none-some, same_Some}
use Rattle.geda_defs.specs.Classes.{Joined}
use Rattle.geda_geom.specs.declared.conductor.Conductor.{Conductor}
use Rattle.geda_geom.specs.declared.conductor.Key.{Key}
use Rattle.geda_geom.specs.Keys.{by_key}
use Rattle.geda_geom.proofs.TouchLemmas.{touch_turn}
use Rattle.touch_index.specs.Index.{DoTouch as TouchOf, IsNeighbour}
use Rattle.net_flood.specs.Grouping.{InGroup, IsGroup}
use Rattle.net_flood.proofs.KeyLemmas as keys
use Rattle.net_flood.proofs.RelationLemmas.{along, joined_itself, joined_more}
use Rattle.pair_classes.proofs.LabelLemmas.{joined_back, joined_keeps, joined_then, labels_agree}
use Rattle.sheet_groups.specs.Conductors.{SheetConductor}
use Rattle.sheet_groups.specs.Groups.{AreLabels, AreTouching, DoTouch, TouchAt}
use Rattle.board_core.specs.GroupSizes.{IsGroupSize}
use Rattle.board_core.specs.steps.Standing.{by_sheet}
use Rattle.board_core.specs.steps.Members.{Distinct, In}
use Rattle.board_core.proofs.MemberLemmas.{at_place, contains_in, in_contains, of_place}
use Rattle.board_core.proofs.DrawnLemmas.{conductor, keys_at, keys_rise_distinct, stands, stood}

-- the keys rise
abbrev pub Rise : List SheetConductor → Type 0
Rise cs = IsStrictlySortedBy by_key (keys_at cs)

-- touching goes both ways
pub turn_touch : (o p : Option SheetConductor) → DoTouch o p → DoTouch p o
turn_touch (Some c) (Some d) t = record { together = sym t.together; touch = touch_turn c.shape d.shape t.touch }
turn_touch (Some c) None t = absurd t
turn_touch None p t = absurd t

-- what stands at a place is in the list
pub within : {X : Type 0} (xs : List X) (i : ℕ) (x : X) → slice_get xs i ≡ Some x → i < length xs
within [] i x e = absurd (none-some x e)
within (y ∷ xs) zero x e = omega arith
within (y ∷ xs) (suc i) x e = let rest = within xs i x e in omega arith

-- what touches stands in the list
pub first_within : (cs : List SheetConductor) (i j : ℕ) → TouchAt cs i j → i < length cs
first_within cs i j t = by (slice_get cs i) refl t
  where
    by : (o : Option SheetConductor) → slice_get cs i ≡ o → DoTouch o (slice_get cs j) → i < length cs
    by (Some c) e t = within cs i c e
    by None e t = absurd t

-- the keys of the conductors that have a label
abbrev pub labelled : ℕ → List SheetConductor → List ℕ → List Key
labelled l (c ∷ cs) (m ∷ ms) = cond (m == l) (c.key ∷ labelled l cs ms) (labelled l cs ms)
labelled l cs ms = []

pub labelled_count : (l : ℕ) (cs : List SheetConductor) (ms : List ℕ) → length ms ≡ length cs → count_by (λ m. m == l) ms ≡ length (labelled l cs ms)
labelled_count l [] [] long = refl
labelled_count l [] (m ∷ ms) long = absurd (omega (arith, long))
labelled_count l (c ∷ cs) [] long = absurd (omega (arith, long))
labelled_count l (c ∷ cs) (m ∷ ms) long = by (labelled_count l cs ms (omega (arith, long))) (m == l) refl
  where
    by : count_by (λ m. m == l) ms ≡ length (labelled l cs ms) → (b : Bool) → (m == l) ≡ b → count_by (λ m. m == l) (m ∷ ms) ≡ length (labelled l (c ∷ cs) (m ∷ ms))
    by rest true e =
        let parts = sum_by-cons (λ x. cond (x == l) 1 0) m ms in
        let first : ◌≡◌ {A = ℕ} (cond (m == l) 1 0) 1 = ap (λ (b : Bool). cond {A = ℕ} b 1 0) e in
        let here : length (labelled l (c ∷ cs) (m ∷ ms)) ≡ suc (length (labelled l cs ms)) = ap (λ b. length (cond b (c.key ∷ labelled l cs ms) (labelled l cs ms))) e in
        omega (arith, parts, first, here, rest)
    by rest false e =
        let parts = sum_by-cons (λ x. cond (x == l) 1 0) m ms in
        let first : ◌≡◌ {A = ℕ} (cond (m == l) 1 0) 0 = ap (λ (b : Bool). cond {A = ℕ} b 1 0) e in
        let here : length (labelled l (c ∷ cs) (m ∷ ms)) ≡ length (labelled l cs ms) = ap (λ b. length (cond b (c.key ∷ labelled l cs ms) (labelled l cs ms))) e in
        omega (arith, parts, first, here, rest)

labelled_all : (P : Key → Type 0) (l : ℕ) (cs : List SheetConductor) (ms : List ℕ) → AllByRecursion P (keys_at cs) → AllByRecursion P (labelled l cs ms)
labelled_all P l [] ms h = tt
labelled_all P l (c ∷ cs) [] h = tt
labelled_all P l (c ∷ cs) (m ∷ ms) h = by (labelled_all P l cs ms h.1) (m == l) refl
  where
    by : AllByRecursion P (labelled l cs ms) → (b : Bool) → (m == l) ≡ b → AllByRecursion P (labelled l (c ∷ cs) (m ∷ ms))
    by rest true e = rw e (h.0, rest)
    by rest false e = rw e rest

labelled_rise : (l : ℕ) (cs : List SheetConductor) (ms : List ℕ) → Rise cs → IsStrictlySortedBy by_key (labelled l cs ms)
unfolding IsStrictlySortedBy
labelled_rise l [] ms h = tt
labelled_rise l (c ∷ cs) [] h = tt
labelled_rise l (c ∷ cs) (m ∷ ms) h = by (labelled_rise l cs ms h.1) (m == l) refl
  where
    by : IsStrictlySortedBy by_key (labelled l cs ms) → (b : Bool) → (m == l) ≡ b → IsStrictlySortedBy by_key (labelled l (c ∷ cs) (m ∷ ms))
    by rest true e = rw e (labelled_all (λ k. by_key c.key k ≡ Less) l cs ms h.0, rest)
    by rest false e = rw e rest

in_labelled : (l : ℕ) (cs : List SheetConductor) (ms : List ℕ) (j : ℕ) (d : SheetConductor) → slice_get cs j ≡ Some d → j < length ms → get_or ms j 0 ≡ l → In d.key (labelled l cs ms)
in_labelled l [] ms j d e lt same = absurd (none-some d e)
in_labelled l (c ∷ cs) [] j d e lt same = absurd (omega (arith, lt))
in_labelled l (c ∷ cs) (m ∷ ms) zero d e lt same =
    let yes_ : (m == l) ≡ true = search (same, arith) in
    rw yes_ (inl (ap (λ (x : SheetConductor). x.key) (same_Some c d e)))
in_labelled l (c ∷ cs) (m ∷ ms) (suc j) d e lt same = by (in_labelled l cs ms j d e (omega (arith, lt)) same) (m == l) refl
  where
    by : In d.key (labelled l cs ms) → (b : Bool) → (m == l) ≡ b → In d.key (labelled l (c ∷ cs) (m ∷ ms))
    by rest true t = rw t (inr rest)
    by rest false t = rw t rest

-- where a key with a label stands
record IsLabelled (l : ℕ) (cs : List SheetConductor) (ms : List ℕ) (q : Key) : Type 0 where
  place : ℕ
  conductor : SheetConductor
  there : slice_get cs place ≡ Some conductor
  label : get_or ms place 0 ≡ l
  key : conductor.key ≡ q

labelled_of : (l : ℕ) (cs : List SheetConductor) (ms : List ℕ) (q : Key) → In q (labelled l cs ms) → IsLabelled l cs ms q
labelled_of l [] ms q h = absurd h
labelled_of l (c ∷ cs) [] q h = absurd h
labelled_of l (c ∷ cs) (m ∷ ms) q h = by (labelled_of l cs ms q) (m == l) refl h
  where
    later : IsLabelled l cs ms q → IsLabelled l (c ∷ cs) (m ∷ ms) q
    later w = record { place = suc w.place; conductor = w.conductor; there = w.there; label = w.label; key = w.key }

    by : (In q (labelled l cs ms) → IsLabelled l cs ms q) → (b : Bool) → (m == l) ≡ b → In q (labelled l (c ∷ cs) (m ∷ ms)) → IsLabelled l (c ∷ cs) (m ∷ ms) q
    by rest true t h = elim (let k : (c.key ≡ q) ⊎ In q (labelled l cs ms) = rw t at h in k) [
      | inl e ↦ record { place = zero; conductor = c; there = refl; label = (let same : m ≡ l = search (t, arith) in same); key = e }
      | inr k ↦ later (rest k)
    ]
    by rest false t h = later (rest (rw t at h))

module _ (cs : List SheetConductor) (rise : Rise cs) where
  distinct : Distinct (keys_at cs)
  distinct = keys_rise_distinct (keys_at cs) rise

  -- what stands at a place is found on its sheet
  pub found_at : (j : ℕ) (d : SheetConductor) → slice_get cs j ≡ Some d → get (by_sheet cs d.sheet) d.key ≡ Some d.shape
  found_at j d e = stands cs distinct d (of_place j d cs e)

  module _ (i : ℕ) (c : SheetConductor) (here_ : slice_get cs i ≡ Some c) where
    -- a chain of places is one of keys
    pub record Reaches (j : ℕ) : Type 0 where
      pub conductor : SheetConductor
      pub there : slice_get cs j ≡ Some conductor
      pub together : conductor.sheet ≡ c.sheet
      pub joined : Joined (IsNeighbour (get (by_sheet cs c.sheet))) c.key conductor.key

    reaches_more : (k j : ℕ) → Reaches k → TouchAt cs k j → Reaches j
    reaches_more k j r t = by (slice_get cs j) refl (subst (λ o. DoTouch o (slice_get cs j)) r.there t)
      where
        link : (x : SheetConductor) → slice_get cs j ≡ Some x → AreTouching r.conductor x → (x.sheet ≡ c.sheet) → (x.key ≡ r.conductor.key) ⊎ (x.key ≢ r.conductor.key)
            → Joined (IsNeighbour (get (by_sheet cs c.sheet))) c.key x.key
        link x e touching same (inl key) = subst (λ q. Joined (IsNeighbour (get (by_sheet cs c.sheet))) c.key q) (sym key) r.joined
        link x e touching same (inr apart) =
            let first : get (by_sheet cs c.sheet) r.conductor.key ≡ Some r.conductor.shape = ap (λ s. get (by_sheet cs s) r.conductor.key) (sym r.together) ∙ found_at k r.conductor r.there in
            let second : get (by_sheet cs c.sheet) x.key ≡ Some x.shape = ap (λ s. get (by_sheet cs s) x.key) (sym same) ∙ found_at j x e in
            joined_more (IsNeighbour (get (by_sheet cs c.sheet))) c.key r.conductor.key x.key r.joined (record {
              apart = apart;
              touch = subst (λ o. TouchOf o (get (by_sheet cs c.sheet) x.key)) (sym first) (subst (λ o. TouchOf (Some r.conductor.shape) o) (sym second) touching.touch);
            })

        by : (o : Option SheetConductor) → slice_get cs j ≡ o → DoTouch (Some r.conductor) o → Reaches j
        by None e t = absurd t
        by (Some x) e t =
            let same : x.sheet ≡ c.sheet = sym t.together ∙ r.together in
            record { conductor = x; there = e; together = same; joined = link x e t same (keys.same_or_apart x.key r.conductor.key) }

    pub reaches : (j : ℕ) → Joined (TouchAt cs) i j → Reaches j
    reaches j joined =
        along (TouchAt cs) Reaches reaches_more i j
        (record { conductor = c; there = here_; together = refl; joined = joined_itself (IsNeighbour (get (by_sheet cs c.sheet))) c.key }) joined

    -- a chain of keys is one of places
    pub record IsReached (q : Key) : Type 0 where
      pub place : ℕ
      pub conductor : SheetConductor
      pub there : slice_get cs place ≡ Some conductor
      pub key : conductor.key ≡ q
      pub together : conductor.sheet ≡ c.sheet
      pub joined : Joined (TouchAt cs) i place

    reached_more : (q r : Key) → IsReached q → IsNeighbour (get (by_sheet cs c.sheet)) q r → IsReached r
    reached_more q r w n = by (get (by_sheet cs c.sheet) r) refl n.touch
      where
        first : get (by_sheet cs c.sheet) q ≡ Some w.conductor.shape
        first = ap (get (by_sheet cs c.sheet)) (sym w.key) ∙ ap (λ s. get (by_sheet cs s) w.conductor.key) (sym w.together) ∙ found_at w.place w.conductor w.there

        by : (o : Option Conductor) → get (by_sheet cs c.sheet) r ≡ o → TouchOf (get (by_sheet cs c.sheet) q) o → IsReached r
        by None e t = absurd (subst (λ o. TouchOf o None) first t)
        by (Some v) e t =
            let at = at_place (conductor c.sheet r v) cs (stood cs distinct c.sheet r v e) in
            let touching : AreTouching w.conductor (conductor c.sheet r v) = record { together = w.together; touch = subst (λ o. TouchOf o (Some v)) first t } in
            record {
              place = at.0;
              conductor = conductor c.sheet r v;
              there = at.1;
              key = refl;
              together = refl;
              joined = joined_more (TouchAt cs) i w.place at.0 w.joined (subst (λ o. DoTouch o (slice_get cs at.0)) (sym w.there) (subst (λ o. DoTouch (Some w.conductor) o) (sym at.1) touching));
            }

    pub reached : (q : Key) → Joined (IsNeighbour (get (by_sheet cs c.sheet))) c.key q → IsReached q
    reached q joined =
        along (IsNeighbour (get (by_sheet cs c.sheet))) IsReached reached_more c.key q
        (record { place = i; conductor = c; there = here_; key = refl; together = refl; joined = joined_itself (TouchAt cs) i }) joined

    module _ (labels : List ℕ) (are : AreLabels cs labels) where
      -- joined places have one label
      same_label : (j : ℕ) → Joined (TouchAt cs) i j → get_or labels i 0 ≡ get_or labels j 0
      same_label j joined =
          joined_keeps (TouchAt cs) (λ k. get_or labels k 0)
          (λ a b t. labels_agree (TouchAt cs) (length cs) labels are (λ x y u. turn_touch (slice_get cs x) (slice_get cs y) u) a b (first_within cs a b t)
          (first_within cs b a (turn_touch (slice_get cs a) (slice_get cs b) t)) t) i j joined

      -- places with one label are joined
      joined_label : (j : ℕ) → j < length cs → get_or labels j 0 ≡ get_or labels i 0 → Joined (TouchAt cs) i j
      joined_label j lt same =
          joined_then (TouchAt cs) i (get_or labels i 0) j (are.chain i (within cs i c here_))
          (joined_back (TouchAt cs) (λ x y u. turn_touch (slice_get cs x) (slice_get cs y) u) j (get_or labels i 0)
          (subst (λ l. Joined (TouchAt cs) j l) same (are.chain j lt)))

      -- those with the label of a place are its group
      pub group_labelled : IsGroup (by_sheet cs c.sheet) c.key (labelled (get_or labels i 0) cs labels)
      group_labelled = record {
        rising = labelled_rise (get_or labels i 0) cs labels rise;
        same = λ q. (λ h. to q (labelled_of (get_or labels i 0) cs labels q (contains_in q (labelled (get_or labels i 0) cs labels) h)), λ h. back q (reached q h.1));
      }
        where
          to : (q : Key) → IsLabelled (get_or labels i 0) cs labels q → InGroup (by_sheet cs c.sheet) c.key q
          to q w =
              let r = reaches w.place (joined_label w.place (within cs w.place w.conductor w.there) w.label) in
              let same : r.conductor ≡ w.conductor = same_Some r.conductor w.conductor (sym r.there ∙ w.there) in
              (ap is_some (found_at i c here_), subst (λ k. Joined (IsNeighbour (get (by_sheet cs c.sheet))) c.key k) (ap (λ (x : SheetConductor). x.key) same ∙ w.key) r.joined)

          back : (q : Key) → IsReached q → Contains (labelled (get_or labels i 0) cs labels) q
          back q w =
              let lt : w.place < length labels = let long = are.len in let there = within cs w.place w.conductor w.there in omega arith in
              subst (Contains (labelled (get_or labels i 0) cs labels)) w.key
              (in_contains w.conductor.key (labelled (get_or labels i 0) cs labels)
              (in_labelled (get_or labels i 0) cs labels w.place w.conductor w.there lt (sym (same_label w.place w.joined))))

    -- the group of a conductor, as large as its class
    pub group_of_size : (size : ℕ) → IsGroupSize cs i size → (keys : List Key) × IsGroup (by_sheet cs c.sheet) c.key keys × (size ≡ length keys)
    group_of_size size is =
        (labelled (get_or is.labels i 0) cs is.labels, group_labelled is.labels is.are_labels, is.counted ∙ labelled_count (get_or is.labels i 0) cs is.labels is.are_labels.len)
