-- The keys that are found stand for all neighbours.
use Rattle.std.proofs.Common.{arith, ◌≡◌, ◌≢◌, ◌↔◌, ◌⊎◌, ◌<◌, ◌+◌, ◌++◌, ◌∷◌, [], ℕ, ℤ, zero, suc, inl, inr, true, false, List, length, take, get_or, Option, Some, None, Contains, refl, sym, ap, subst, ◌∙◌}
use Rattle.std.proofs.lemmas.List.{take_more}
use Rattle.std.proofs.lemmas.List.Elements.{Contains-append_left, Contains-push, Contains-push_cases}
use Rattle.geda_defs.specs.Classes.{Joined}
use Rattle.geda_geom.specs.declared.conductor.Key.{Key}
use Rattle.geda_geom.specs.declared.conductor.Point.{Point}
use Rattle.geda_geom.specs.declared.conductor.Conductor.{Conductor}
use Rattle.geda_geom.specs.Touch.{Touch}
use Rattle.touch_index.specs.declared.grid.Grid.{Grid}
use Rattle.touch_index.specs.declared.strips.Strips.{Strips}
use Rattle.touch_index.specs.declared.spans.Mark.{Mark}
use Rattle.touch_index.specs.declared.spans.Span.{Span}
use Rattle.touch_index.specs.Index.{AreBeside, DoTouch, IsNeighbour, IsSpanning}
use Rattle.touch_index.specs.steps.Spans.{DoMeet, mark_of, span_of}
use Rattle.touch_index.specs.steps.Strips.{AreAllProper, FindsOn, HasMark, HasSpan, IsMetOn, strip_at, strip_of}
use Rattle.touch_index.specs.steps.Grid.{AddsMetIn, Covers, Finds, IsMetIn, column_point, ends_of, lifted, row_point}
use Rattle.touch_index.specs.steps.Drawn.{AreDrawn, IsDrawn}
use Rattle.touch_index.specs.steps.Sifting.{Entries, IsBesideOne, IsIndexed, StandForAll, conductor_at}
use Rattle.touch_index.proofs.DrawnLemmas.{IsAxis, columns_axis, marks_touch, mark_proper, rows_axis}
use Rattle.touch_index.proofs.GridLemmas.{along_both, some_both, touching_meets}
use Rattle.touch_index.proofs.StripLemmas.{mark_on, mark_there}
use Rattle.touch_index.proofs.ListLemmas.{none_is_in}
use Rattle.touch_index.proofs.MapLemmas.{key_or_apart}
use Rattle.touch_index.proofs.MarkLemmas.{span_of-mark_of}

-- a listed neighbour that another one is, or touches
pub record StandsFor (at : Key → Option Conductor) (key : Key) (keys : List Key) (q : Key) : Type 0 where
  pub other : Key
  pub listed : Contains keys other
  pub near : IsNeighbour at key other
  pub touch : DoTouch (at other) (at q)

module _ (at : Key → Option Conductor) (f g : Point → ℤ) (axis : IsAxis f g) (strips : Strips) (key q : Key) (keys : List Key) (apart : q ≢ key)
    (drawn : (m : Mark) → HasMark strips m → IsDrawn at (λ p. record { line = lifted (f p); at = lifted (g p) }) m) where
  pub set_stands : (s t : Span) → FindsOn false strips key keys s × HasSpan strips s key → HasSpan strips t q → DoMeet s t → StandsFor at key keys q
  set_stands s t own holds meet =
      let own_span : span_of (mark_of s key) ≡ s = span_of-mark_of s key own.1.holds.fits in
      let span : span_of (mark_of t q) ≡ t = span_of-mark_of t q holds.holds.fits in
      let there : strip_at strips (strip_of s.line) ≡ Some holds.spans = ap (λ (n : ℕ). strip_at strips (strip_of n)) meet.together ∙ holds.there in
      let spanned = own.0 holds.spans there (mark_of t q) holds.holds.known (record {
        marked = holds.holds.marked;
        long = let long = holds.holds.long in omega (arith, long);
        apart = apart;
        meets = subst (DoMeet s) (sym span) meet;
      }) in
      let first = drawn (mark_of s key) (mark_there strips s key own.1) in
      let second = drawn (mark_of t q) (mark_there strips t q holds) in
      let third = drawn spanned.other (mark_on strips (strip_of s.line) holds.spans spanned.other there (ap strip_of spanned.near.together) spanned.marked) in
      record {
        other = spanned.other.key;
        listed = spanned.listed;
        near = record {
          apart = spanned.apart;
          touch = marks_touch at f g axis (mark_of s key) spanned.other first third (subst (λ (u : Span). DoMeet u (span_of spanned.other)) (sym own_span) spanned.near);
        };
        touch = marks_touch at f g axis spanned.other (mark_of t q) third second (record {
          together = sym spanned.meets.together;
          before = spanned.meets.after;
          after = spanned.meets.before;
        });
      }

-- some listed key stands for each neighbour
pub stands_near : (at : Key → Option Conductor) (grid : Grid) (own c : Conductor) (key q : Key) (keys : List Key) → AreDrawn at grid → Covers grid own key → Covers grid c q
    → Finds false grid own key keys → q ≢ key → Touch own c → StandsFor at key keys q
stands_near at grid own c key q keys drawn mine other spans apart touch =
    touching_meets (λ s. FindsOn false grid.rows key keys s × HasSpan grid.rows s key) (λ s. FindsOn false grid.columns key keys s × HasSpan grid.columns s key)
    (λ s. HasSpan grid.rows s q) (λ s. HasSpan grid.columns s q) (StandsFor at key keys q)
    (set_stands at (λ p. p.y) (λ p. p.x) rows_axis grid.rows key q keys apart drawn.rows)
    (set_stands at (λ p. p.x) (λ p. p.y) columns_axis grid.columns key q keys apart drawn.columns)
    own c
    (record {
      rows = along_both (FindsOn false grid.rows key keys) (λ s. HasSpan grid.rows s key) (row_point (ends_of own).0) (row_point (ends_of own).1) spans.rows mine.rows;
      columns = along_both (FindsOn false grid.columns key keys) (λ s. HasSpan grid.columns s key) (column_point (ends_of own).0) (column_point (ends_of own).1) spans.columns mine.columns;
    })
    other touch

-- no drawn mark ends before it begins
pub rows_proper : (at : Key → Option Conductor) (grid : Grid) → AreDrawn at grid → AreAllProper grid.rows
rows_proper at grid drawn m h = mark_proper at (λ p. p.y) (λ p. p.x) rows_axis m (drawn.rows m h)

pub columns_proper : (at : Key → Option Conductor) (grid : Grid) → AreDrawn at grid → AreAllProper grid.columns
columns_proper at grid drawn m h = mark_proper at (λ p. p.x) (λ p. p.y) columns_axis m (drawn.columns m h)

-- nothing is a neighbour of what is not there
pub none_spans : (at : Key → Option Conductor) (key : Key) (keys : List Key) → at key ≡ None → ((q : Key) → Contains keys q → ⊥) → IsSpanning at key keys
none_spans at key keys none empty = record {
  near = λ q h. absurd (empty q h);
  all = λ q n. absurd (subst (λ (o : Option Conductor). DoTouch o (at q)) none n.touch);
}

-- two keys whose conductors touch are one key, or stand beside a third one
beside_or_same : (at : Key → Option Conductor) (key a b : Key) → a ≢ key → b ≢ key → DoTouch (at a) (at b) → (a ≡ b) ⊎ AreBeside at key a b
beside_or_same at key a b first second touch = elim (key_or_apart a b) [
  | inl e ↦ inl e
  | inr other ↦ inr (record { first_apart = first; second_apart = second; near = record { apart = λ e. other (sym e); touch = touch } })
]

join_on : (R : Key → Key → Type 0) (i j k : Key) → Joined R i j → (j ≡ k) ⊎ R j k → Joined R i k
join_on R i j k joined next = elim next [ inl e ↦ subst (Joined R i) e joined | inr r ↦ (suc joined.0, (j, joined.1, r)) ]

module _ (at : Key → Option Conductor) (f g : Point → ℤ) (axis : IsAxis f g) (strips : Strips) (key q : Key)
    (drawn : (m : Mark) → HasMark strips m → IsDrawn at (λ p. record { line = lifted (f p); at = lifted (g p) }) m) where
  met_touches : (s : Span) → IsMetOn strips s key q → HasSpan strips s key → IsNeighbour at key q
  met_touches s met own =
      let own_span : span_of (mark_of s key) ≡ s = span_of-mark_of s key own.holds.fits in
      let touch = marks_touch at f g axis (mark_of s key) met.mark (drawn (mark_of s key) (mark_there strips s key own)) (drawn met.mark met.marked)
      (subst (λ (u : Span). DoMeet u (span_of met.mark)) (sym own_span) met.near) in
      subst (IsNeighbour at key) met.is (record { apart = met.apart; touch = touch })

-- what has a mark that meets is a neighbour
pub met_is_near : (at : Key → Option Conductor) (grid : Grid) (own : Conductor) (key q : Key) → AreDrawn at grid → Covers grid own key → IsMetIn grid own key q → IsNeighbour at key q
met_is_near at grid own key q drawn mine met = elim met [
  | inl row ↦ some_both (λ s. IsMetOn grid.rows s key q) (λ s. HasSpan grid.rows s key) (IsNeighbour at key q) (row_point (ends_of own).0) (row_point (ends_of own).1)
      (met_touches at (λ p. p.y) (λ p. p.x) rows_axis grid.rows key q drawn.rows) row mine.rows
  | inr column ↦ some_both (λ s. IsMetOn grid.columns s key q) (λ s. HasSpan grid.columns s key) (IsNeighbour at key q) (column_point (ends_of own).0) (column_point (ends_of own).1)
      (met_touches at (λ p. p.x) (λ p. p.y) columns_axis grid.columns key q drawn.columns) column mine.columns
]

module _ (strips : Strips) (key q : Key) (keys : List Key) (apart : q ≢ key) where
  set_lists : (s t : Span) → FindsOn true strips key keys s → HasSpan strips t q → DoMeet s t → Contains keys q
  set_lists s t all holds meet =
      let span : span_of (mark_of t q) ≡ t = span_of-mark_of t q holds.holds.fits in
      all holds.spans (ap (λ (n : ℕ). strip_at strips (strip_of n)) meet.together ∙ holds.there) (mark_of t q) holds.holds.known (record {
        marked = holds.holds.marked;
        long = let long = holds.holds.long in omega (arith, long);
        apart = apart;
        meets = subst (DoMeet s) (sym span) meet;
      })

-- where all are wanted each neighbour is listed
pub lists_near : (grid : Grid) (own c : Conductor) (key q : Key) (keys : List Key) → Covers grid c q → Finds true grid own key keys → q ≢ key → Touch own c → Contains keys q
lists_near grid own c key q keys other finds apart touch =
    touching_meets (FindsOn true grid.rows key keys) (FindsOn true grid.columns key keys) (λ s. HasSpan grid.rows s q) (λ s. HasSpan grid.columns s q) (Contains keys q)
    (set_lists grid.rows key q keys apart) (set_lists grid.columns key q keys apart) own c finds other touch

module _ (es : Entries) (grid : Grid) (own : Conductor) (key : Key) (near keys : List Key) (indexed : IsIndexed es grid) (drawn : AreDrawn (conductor_at es) grid)
    (there : conductor_at es key ≡ Some own) (only : AddsMetIn grid own key [] near) where
  near_touches : (q : Key) → Contains near q → IsNeighbour (conductor_at es) key q
  near_touches q h = elim (only q h) [
    | inl c ↦ none_is_in q c
    | inr met ↦ met_is_near (conductor_at es) grid own key q drawn (indexed key own there) met
  ]

  -- the conductor of a neighbour
  by_conductor : {P : Type 0} (q : Key) → IsNeighbour (conductor_at es) key q → ((c : Conductor) → conductor_at es q ≡ Some c → Touch own c → P) → P
  by_conductor {P} q n to = go (conductor_at es q) refl (subst (λ (o : Option Conductor). DoTouch o (conductor_at es q)) there n.touch)
    where
      go : (o : Option Conductor) → conductor_at es q ≡ o → DoTouch (Some own) (conductor_at es q) → P
      go None e t = absurd (subst (λ (o : Option Conductor). DoTouch (Some own) o) e t)
      go (Some c) e t = to c e (subst (λ (o : Option Conductor). DoTouch (Some own) o) e t)

  pub all_listed : Finds true grid own key near → ((q : Key) → Contains keys q ↔ Contains near q) → (q : Key) → Contains keys q ↔ IsNeighbour (conductor_at es) key q
  all_listed finds same q = (
    λ h. near_touches q ((same q).0 h),
    λ n. (same q).1 (by_conductor q n (λ c e touch. lists_near grid own c key q near (indexed q c e) finds n.apart touch)),
  )

  module _ (left : List Key) (finds : Finds false grid own key near) (stand : StandForAll (conductor_at es) left near) (same : (q : Key) → Contains keys q ↔ Contains left q) where
    abbrev at : Key → Option Conductor
    at = conductor_at es

    stands : (q : Key) → IsNeighbour at key q → StandsFor at key near q
    stands q n = by_conductor q n (λ c e touch. stands_near at grid own c key q near drawn (indexed key own there) (indexed q c e) finds n.apart touch)

    -- from a key that is left to a neighbour, by the one that stands for it
    chain : (q : Key) → IsNeighbour at key q → (s : StandsFor at key near q) → (k : Key) × Contains keys k × Joined (AreBeside at key) k q
    chain q n s = elim (stand.all s.other s.listed) [
      | inl is ↦ (s.other, (same s.other).1 is, to_neighbour s.other (zero, refl))
      | inr by ↦ (
        by.0,
        (same by.0).1 by.1,
        to_neighbour by.0 (join_on (AreBeside at key) by.0 by.0 s.other (zero, refl)
            (beside_or_same at key by.0 s.other (near_touches by.0 (stand.some by.0 by.1)).apart s.near.apart by.2)),
      )
    ]
      where
        to_neighbour : (k : Key) → Joined (AreBeside at key) k s.other → Joined (AreBeside at key) k q
        to_neighbour k joined = join_on (AreBeside at key) k s.other q joined (beside_or_same at key s.other q s.near.apart n.apart s.touch)

    pub found_span : IsSpanning at key keys
    found_span = record {
      near = λ q h. near_touches q (stand.some q ((same q).0 h));
      all = λ q n. chain q n (stands q n);
    }

-- of the first few keys some stand for all
module _ (at : Key → Option Conductor) (keys : List Key) (i : ℕ) (d : Key) (inside : i < length keys) (left : List Key) (stand : StandForAll at left (take i keys)) where
  next_some : (q : Key) → Contains (take i keys) q → Contains (take (i + 1) keys) q
  next_some q h = subst (λ (ks : List Key). Contains ks q) (sym (take_more keys i d inside)) (Contains-append_left (take i keys) (get_or keys i d ∷ []) q h)

  next_cases : (q : Key) → Contains (take (i + 1) keys) q → Contains (take i keys) q ⊎ (get_or keys i d ≡ q)
  next_cases q h = Contains-push_cases (take i keys) (get_or keys i d) q (subst (λ (ks : List Key). Contains ks q) (take_more keys i d inside) h)

  pub apart_more : StandForAll at (left ++ get_or keys i d ∷ []) (take (i + 1) keys)
  apart_more = record {
    some = λ q h. elim (Contains-push_cases left (get_or keys i d) q h) [
      | inl l ↦ next_some q (stand.some q l)
      | inr e ↦ subst (λ (ks : List Key). Contains ks q) (sym (take_more keys i d inside)) (subst (Contains (take i keys ++ get_or keys i d ∷ [])) e (Contains-push (take i keys) (get_or keys i d)))
    ];
    all = λ q h. elim (next_cases q h) [
      | inl t ↦ elim (stand.all q t) [
        | inl l ↦ inl (Contains-append_left left (get_or keys i d ∷ []) q l)
        | inr by ↦ inr (by.0, Contains-append_left left (get_or keys i d ∷ []) by.0 by.1, by.2)
      ]
      | inr e ↦ inl (subst (Contains (left ++ get_or keys i d ∷ [])) e (Contains-push left (get_or keys i d)))
    ];
  }

  pub apart_past : IsBesideOne at left (get_or keys i d) → StandForAll at left (take (i + 1) keys)
  apart_past by = record {
    some = λ q h. next_some q (stand.some q h);
    all = λ q h. elim (next_cases q h) [ inl t ↦ stand.all q t | inr e ↦ inr (subst (IsBesideOne at left) e by) ];
  }
