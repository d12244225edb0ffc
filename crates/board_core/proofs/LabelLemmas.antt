-- Each list of conductors has labels of its groups.
use Rattle.std.proofs.Common.{◌≡◌, ◌⊎◌, inl, inr, ◌==◌, ℕ, zero, suc, ◌<◌, ◌≤◌, ℤ, Bool, true, false, cond, List, [], ◌∷◌, Option, Some, None, length, map, get_or, nat_lt, refl, sym, ap, subst, ◌∙◌, arith}
use Rattle.std.specs.Prelude.{◌<ℤ◌}
use Rattle.std.specs.Cmp.{int_ranks}
use Rattle.std.specs.List.{flat_map, slice_get}
use Rattle.std.specs.Ordering.{MatchOrdering, int_cmp}
use Rattle.std.specs.declared.cmp.Ordering.{Ordering}
use Rattle.std.specs.declared.cmp.Ordering.TheVariants.{Less, Equal, Greater}
use Rattle.geda_defs.specs.Classes.{Joined}
use Rattle.geda_geom.specs.declared.conductor.Conductor.{Conductor}
use Rattle.geda_geom.specs.declared.conductor.Conductor.TheVariants.{Segment, End}
use Rattle.geda_geom.specs.declared.conductor.Point.{Point}
use Rattle.geda_geom.specs.Touch.{IsAt, IsBetween, IsEnd, IsInside, SomeEnd, Touch}
use Rattle.pair_classes.proofs.LabelLemmas.{are_classes, joined_back, joined_by, joined_self, joined_then}
use Rattle.group_runs.proofs.RowLemmas.{same_or_apart}
use Rattle.sheet_groups.specs.Conductors.{SheetConductor}
use Rattle.sheet_groups.specs.Groups.{AreLabels, AreTouching, DoTouch, TouchAt}
use Rattle.board_core.specs.steps.Members.{In}
use Rattle.board_core.proofs.MemberLemmas.{in_flat, in_map}
use Rattle.board_core.proofs.GroupLemmas.{first_within, turn_touch}

-- either of two, or neither
either : {P Q : Type 0} → P ⊎ (P → ⊥) → Q ⊎ (Q → ⊥) → (P ⊎ Q) ⊎ ((P ⊎ Q) → ⊥)
either (inl p) q = inl (inl p)
either (inr n) (inl q) = inl (inr q)
either (inr n) (inr m) = inr (λ h. elim h [ inl p ↦ n p | inr q ↦ m q ])

both : {P Q : Type 0} → P ⊎ (P → ⊥) → Q ⊎ (Q → ⊥) → (P × Q) ⊎ ((P × Q) → ⊥)
both (inl p) (inl q) = inl (p, q)
both (inl p) (inr m) = inr (λ h. m h.1)
both (inr n) q = inr (λ h. n h.0)

equal_or_not : (x y : ℤ) → (x ≡ y) ⊎ ((x ≡ y) → ⊥)
equal_or_not x y = by (int_cmp x y) (int_ranks x y)
  where
    by : (r : Ordering) → MatchOrdering r (x <ℤ y) (x ≡ y) (y <ℤ x) → (x ≡ y) ⊎ ((x ≡ y) → ⊥)
    by Less h = inr (λ e. let lt : x <ℤ y = h in let same : x ≡ y = e in absurd (grind (arith, lt, same)))
    by Equal h = inl h
    by Greater h = inr (λ e. let lt : y <ℤ x = h in let same : x ≡ y = e in absurd (grind (arith, lt, same)))

less_or_not : (x y : ℤ) → (x <ℤ y) ⊎ ((x <ℤ y) → ⊥)
less_or_not x y = by (int_cmp x y) (int_ranks x y)
  where
    by : (r : Ordering) → MatchOrdering r (x <ℤ y) (x ≡ y) (y <ℤ x) → (x <ℤ y) ⊎ ((x <ℤ y) → ⊥)
    by Less h = inl h
    by Equal h = inr (λ e. let same : x ≡ y = h in let lt : x <ℤ y = e in absurd (grind (arith, lt, same)))
    by Greater h = inr (λ e. let more : y <ℤ x = h in let lt : x <ℤ y = e in absurd (grind (arith, lt, more)))

between_or_not : (q r p : ℤ) → IsBetween q r p ⊎ (IsBetween q r p → ⊥)
between_or_not q r p = either (both (less_or_not q p) (less_or_not p r)) (both (less_or_not r p) (less_or_not p q))

at_or_not : (p q : Point) → IsAt p q ⊎ (IsAt p q → ⊥)
at_or_not p q = both (equal_or_not p.x q.x) (equal_or_not p.y q.y)

inside_or_not : (c : Conductor) (p : Point) → IsInside c p ⊎ (IsInside c p → ⊥)
inside_or_not (Segment a b) p = either
    (both (both (equal_or_not p.x a.x) (equal_or_not p.x b.x)) (between_or_not a.y b.y p.y))
    (both (both (equal_or_not p.y a.y) (equal_or_not p.y b.y)) (between_or_not a.x b.x p.x))
inside_or_not (End at) p = inr (λ h. h)

end_or_not : (c : Conductor) (p : Point) → IsEnd c p ⊎ (IsEnd c p → ⊥)
end_or_not (Segment a b) p = either (at_or_not p a) (at_or_not p b)
end_or_not (End at) p = at_or_not p at

some_end : (P : Point → Type 0) (c : Conductor) → ((p : Point) → P p ⊎ (P p → ⊥)) → SomeEnd P c ⊎ (SomeEnd P c → ⊥)
some_end P (Segment a b) d = either (d a) (d b)
some_end P (End at) d = d at

-- two conductors touch, or not
touch_or_not : (a b : Conductor) → Touch a b ⊎ (Touch a b → ⊥)
touch_or_not a b = either (some_end (IsEnd b) a (end_or_not b)) (either (some_end (IsInside b) a (inside_or_not b)) (some_end (IsInside a) b (inside_or_not a)))

touching_or_not : (c d : SheetConductor) → AreTouching c d ⊎ (AreTouching c d → ⊥)
touching_or_not c d = elim (same_or_apart c.sheet d.sheet) [
  | inr n ↦ inr (λ h. n h.together)
  | inl e ↦ elim (touch_or_not c.shape d.shape) [ inl t ↦ inl (record { together = e; touch = t }) | inr n ↦ inr (λ h. n h.touch) ]
]

do_or_not : (o p : Option SheetConductor) → DoTouch o p ⊎ (DoTouch o p → ⊥)
do_or_not (Some c) (Some d) = touching_or_not c d
do_or_not (Some c) None = inr (λ h. h)
do_or_not None p = inr (λ h. h)

-- the numbers below a count
numbers : ℕ → List ℕ
numbers zero = []
numbers (suc n) = n ∷ numbers n

in_numbers : (n i : ℕ) → i < n → In i (numbers n)
unfolding numbers
in_numbers zero i lt = absurd (omega (arith, lt))
in_numbers (suc n) i lt = by (nat_lt i n) refl (in_numbers n i)
  where
    by : (b : Bool) → nat_lt i n ≡ b → (i < n → In i (numbers n)) → In i (n ∷ numbers n)
    by true e rest = inr (rest (let less : i < n = search (e, arith) in less))
    by false e rest = inl (let same : n ≡ i = search (e, lt, arith) in same)

module _ (R : ℕ → ℕ → Type 0) (turn : (i j : ℕ) → R i j → R j i) where
  -- labels of places: no link of a pair changes them
  record IsLabelled (pairs : List (ℕ × ℕ)) : Type 0 where
    f : ℕ → ℕ
    low : (k : ℕ) → f k ≤ k
    joined : (k : ℕ) → Joined R k (f k)
    keeps : (i j : ℕ) → In (i, j) pairs → R i j → f i ≡ f j

  -- one label goes over into a lesser one
  module _ (f : ℕ → ℕ) (high low : ℕ) (less : low ≤ high) (link : Joined R high low) where
    merged : ℕ → ℕ
    merged k = cond (f k == high) low (f k)

    merged_high : (k : ℕ) → f k ≡ high → merged k ≡ low
    unfolding merged
    merged_high k e = ap (λ b. cond b low (f k)) (let yes_ : (f k == high) ≡ true = search (e, arith) in yes_)

    merged_low : (k : ℕ) → f k ≡ low → merged k ≡ low
    unfolding merged
    merged_low k e = by (f k == high)
      where
        by : (b : Bool) → cond b low (f k) ≡ low
        by true = refl
        by false = e

    merged_same : (i j : ℕ) → f i ≡ f j → merged i ≡ merged j
    unfolding merged
    merged_same i j e = ap (λ n. cond (n == high) low n) e

    merged_under : (k : ℕ) → f k ≤ k → merged k ≤ k
    unfolding merged
    merged_under k h = by (f k == high) refl
      where
        by : (b : Bool) → (f k == high) ≡ b → cond b low (f k) ≤ k
        by true e = let same : f k ≡ high = search (e, arith) in omega (arith, same, h, less)
        by false e = h

    merged_joined : (k : ℕ) → Joined R k (f k) → Joined R k (merged k)
    unfolding merged
    merged_joined k h = by (f k == high) refl
      where
        by : (b : Bool) → (f k == high) ≡ b → Joined R k (cond b low (f k))
        by true e = let same : f k ≡ high = search (e, arith) in joined_then R k high low (subst (λ n. Joined R k n) same h) link
        by false e = h

  -- one more pair that is linked
  with_link : (a b : ℕ) (pairs : List (ℕ × ℕ)) → R a b → IsLabelled pairs → IsLabelled ((a, b) ∷ pairs)
  with_link a b pairs r was = by (nat_lt (was.f a) (was.f b)) refl
    where
      over : Joined R (was.f a) (was.f b)
      over = joined_then R (was.f a) a (was.f b) (joined_back R turn a (was.f a) (was.joined a)) (joined_then R a b (was.f b) (joined_by R a b r) (was.joined b))

      merge : (high low : ℕ) (less : low ≤ high) (link : Joined R high low) → merged was.f high low less link a ≡ merged was.f high low less link b → IsLabelled ((a, b) ∷ pairs)
      merge high low less link same = record {
        f = merged was.f high low less link;
        low = λ k. merged_under was.f high low less link k (was.low k);
        joined = λ k. merged_joined was.f high low less link k (was.joined k);
        keeps = λ i j h s. elim h [
          | inl e ↦ ap (λ (p : ℕ × ℕ). merged was.f high low less link p.0) (sym e) ∙ same ∙ ap (λ (p : ℕ × ℕ). merged was.f high low less link p.1) e
          | inr k ↦ merged_same was.f high low less link i j (was.keeps i j k s)
        ];
      }

      by : (t : Bool) → nat_lt (was.f a) (was.f b) ≡ t → IsLabelled ((a, b) ∷ pairs)
      by true t =
          let less : was.f a ≤ was.f b = let lt : was.f a < was.f b = search (t, arith) in omega (arith, lt) in
          let link = joined_back R turn (was.f a) (was.f b) over in
          merge (was.f b) (was.f a) less link (merged_low was.f (was.f b) (was.f a) less link a refl ∙ sym (merged_high was.f (was.f b) (was.f a) less link b refl))
      by false t =
          let less : was.f b ≤ was.f a = search (t, arith) in
          merge (was.f a) (was.f b) less over (merged_high was.f (was.f a) (was.f b) less over a refl ∙ sym (merged_low was.f (was.f a) (was.f b) less over b refl))

  -- labels for all pairs
  labelled : ((i j : ℕ) → R i j ⊎ (R i j → ⊥)) → (pairs : List (ℕ × ℕ)) → IsLabelled pairs
  labelled decide [] = record { f = λ k. k; low = λ k. omega arith; joined = λ k. joined_self R k; keeps = λ i j h r. absurd h }
  labelled decide ((a, b) ∷ pairs) = elim (decide a b) [
    | inl r ↦ with_link a b pairs r (labelled decide pairs)
    | inr n ↦ without a b pairs n (labelled decide pairs)
  ]
    where
      without : (a b : ℕ) (pairs : List (ℕ × ℕ)) → (R a b → ⊥) → IsLabelled pairs → IsLabelled ((a, b) ∷ pairs)
      without a b pairs n was = record {
        f = was.f;
        low = was.low;
        joined = was.joined;
        keeps = λ i j h r. elim h [
          | inl e ↦ absurd (n (subst (λ (p : ℕ × ℕ). R p.0 p.1) (sym e) r))
          | inr k ↦ was.keeps i j k r
        ];
      }

-- a list of what a function answers at each place
table : (ℕ → ℕ) → ℕ → List ℕ
table f zero = []
table f (suc n) = f 0 ∷ table (λ k. f (suc k)) n

table_long : (f : ℕ → ℕ) (n : ℕ) → length (table f n) ≡ n
unfolding table
table_long f zero = refl
table_long f (suc n) = ap suc (table_long (λ k. f (suc k)) n)

table_at : (f : ℕ → ℕ) (n i : ℕ) → i < n → get_or (table f n) i 0 ≡ f i
unfolding table
table_at f zero i lt = absurd (omega (arith, lt))
table_at f (suc n) zero lt = refl
table_at f (suc n) (suc i) lt = table_at (λ k. f (suc k)) n i (omega (arith, lt))

module _ (cs : List SheetConductor) where
  turns : (i j : ℕ) → TouchAt cs i j → TouchAt cs j i
  turns i j t = turn_touch (slice_get cs i) (slice_get cs j) t

  abbrev all_pairs : List (ℕ × ℕ)
  all_pairs = flat_map (λ i. map (λ j. (i, j)) (numbers (length cs))) (numbers (length cs))

  in_pairs : (i j : ℕ) → i < length cs → j < length cs → In (i, j) all_pairs
  in_pairs i j first second = in_flat (λ i. map (λ j. (i, j)) (numbers (length cs))) i (i, j) (numbers (length cs)) (in_numbers (length cs) i first) (in_map (λ j. (i, j)) j (numbers (length cs)) (in_numbers (length cs) j second))

  of_labelled : IsLabelled (TouchAt cs) turns all_pairs → (labels : List ℕ) × AreLabels cs labels
  of_labelled all = (
    table all.f (length cs),
    are_classes (TouchAt cs) (length cs) (table all.f (length cs)) (table_long all.f (length cs)) (λ i j t. first_within cs j i (turns i j t))
        (λ i lt. subst (λ l. Joined (TouchAt cs) i l) (sym (table_at all.f (length cs) i lt)) (all.joined i))
        (λ i lt. subst (λ l. l ≤ i) (sym (table_at all.f (length cs) i lt)) (all.low i))
        (λ i j t.
        let first = first_within cs i j t in
        let second = first_within cs j i (turns i j t) in
        table_at all.f (length cs) i first ∙ all.keeps i j (in_pairs i j first second) t ∙ sym (table_at all.f (length cs) j second)),
  )

  -- each list of conductors has labels
  pub labels_of : (labels : List ℕ) × AreLabels cs labels
  labels_of = of_labelled (labelled (TouchAt cs) turns (λ i j. do_or_not (slice_get cs i) (slice_get cs j)) all_pairs)
