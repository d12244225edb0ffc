-- What touches has spans in the grid that meet.
use Rattle.std.proofs.Common.{arith, ◌≡◌, ◌⊎◌, inl, inr, refl, ℤ, pos, negsuc, min, max, ◌-ℤ◌, w32, SFits, ◌≤◌, List, OnOk, Ok, Err, Result, sym, ap, subst, ◌∙◌}
use Rattle.std.specs.Prelude.{◌<ℤ◌, unsigned_abs}
use Rattle.std.proofs.lemmas.Bool.{cases_eq}
use Rattle.std.proofs.lemmas.Int.{ints}
use Rattle.geda_geom.specs.declared.conductor.Key.{Key}
use Rattle.geda_geom.specs.declared.conductor.Point.{Point}
use Rattle.geda_geom.specs.declared.conductor.Conductor.{Conductor}
use Rattle.geda_geom.specs.declared.conductor.Conductor.TheVariants.{Segment, End}
use Rattle.geda_geom.specs.Touch.{Touch, IsBetween, IsEnd, SomeEnd, IsInside}
use Rattle.touch_index.specs.declared.grid.Grid.{Grid}
use Rattle.touch_index.specs.declared.grid.LinePoint.{LinePoint}
use Rattle.touch_index.specs.declared.strips.Strips.{Strips}
use Rattle.touch_index.specs.declared.spans.Span.{Span}
use Rattle.touch_index.specs.steps.Spans.{DoMeet}
use Rattle.touch_index.specs.steps.Strips.{HasSpan}
use Rattle.touch_index.specs.steps.Grid.{IsThrough, lifted, row_point, column_point, between, AddsMetAlong, AddsMetIn, Along, Through, SomeAlong, ends_of, InGrid, Covers}

-- coordinates stay in order
pub lifted_low : (x y : ℤ) → x <ℤ y → lifted x ≤ lifted y
lifted_low (pos a) (pos b) h = grind (arith, h)
lifted_low (pos a) (negsuc b) h = grind (arith, h)
lifted_low (negsuc a) (pos b) h = omega arith
lifted_low (negsuc a) (negsuc b) h = grind (arith, h)

pub lifted_is : (z : ℤ) → SFits w32 z → unsigned_abs (z -ℤ negsuc 2147483647) ≡ lifted z
lifted_is (pos n) fits = omega (arith, ints)
lifted_is (negsuc n) fits = omega (arith, ints)

between_low : (q r p : ℤ) → IsBetween q r p → min (lifted q) (lifted r) ≤ lifted p
between_low q r p h = elim h [
  | inl h ↦ let a = lifted_low q p h.0 in let b = lifted_low p r h.1 in omega (arith, a, b)
  | inr h ↦ let a = lifted_low r p h.0 in let b = lifted_low p q h.1 in omega (arith, a, b)
]

between_high : (q r p : ℤ) → IsBetween q r p → lifted p ≤ max (lifted q) (lifted r)
between_high q r p h = elim h [
  | inl h ↦ let a = lifted_low q p h.0 in let b = lifted_low p r h.1 in omega (arith, a, b)
  | inr h ↦ let a = lifted_low r p h.0 in let b = lifted_low p q h.1 in omega (arith, a, b)
]

-- a span runs through the first of its points, and one through the second
at_first : (P : Span → Type 0) (a b : LinePoint) → Along P a b → Through P a
at_first P a b h = elim (cases_eq a.line b.line) [
  | inl e ↦ (between a b, h.along e, record { line = refl; from = omega arith; to = omega arith })
  | inr ne ↦ (between a a, h.first ne, record { line = refl; from = omega arith; to = omega arith })
]

at_second : (P : Span → Type 0) (a b : LinePoint) → Along P a b → Through P b
at_second P a b h = elim (cases_eq a.line b.line) [
  | inl e ↦ (between a b, h.along e, record { line = e; from = omega arith; to = omega arith })
  | inr ne ↦ (between b b, h.second ne, record { line = refl; from = omega arith; to = omega arith })
]

-- and so at the same point
through_same : (P : Span → Type 0) (a b : LinePoint) → a.line ≡ b.line → a.at ≡ b.at → Through P b → Through P a
through_same P a b line at h = (
  h.0,
  h.1,
  record {
    line = h.2.line ∙ sym line;
    from = let low = h.2.from in omega (arith, low, at);
    to = let high = h.2.to in omega (arith, high, at);
  },
)

module _ (R C : Span → Type 0) where
  -- spans of a conductor run through its end, in the rows and in the columns
  row_at_end : (c : Conductor) (p : Point) → InGrid R C c → IsEnd c p → Through R (row_point p)
  row_at_end (Segment a b) p h is = elim is [
    | inl at ↦ through_same R (row_point p) (row_point a) (ap lifted at.1) (ap lifted at.0) (at_first R (row_point a) (row_point b) h.rows)
    | inr at ↦ through_same R (row_point p) (row_point b) (ap lifted at.1) (ap lifted at.0) (at_second R (row_point a) (row_point b) h.rows)
  ]
  row_at_end (End q) p h at = through_same R (row_point p) (row_point q) (ap lifted at.1) (ap lifted at.0) (at_first R (row_point q) (row_point q) h.rows)

  column_at_end : (c : Conductor) (p : Point) → InGrid R C c → IsEnd c p → Through C (column_point p)
  column_at_end (Segment a b) p h is = elim is [
    | inl at ↦ through_same C (column_point p) (column_point a) (ap lifted at.0) (ap lifted at.1) (at_first C (column_point a) (column_point b) h.columns)
    | inr at ↦ through_same C (column_point p) (column_point b) (ap lifted at.0) (ap lifted at.1) (at_second C (column_point a) (column_point b) h.columns)
  ]
  column_at_end (End q) p h at = through_same C (column_point p) (column_point q) (ap lifted at.0) (ap lifted at.1) (at_first C (column_point q) (column_point q) h.columns)

  -- one runs through each point inside it, in the rows or in the columns
  at_inside : (c : Conductor) (p : Point) → InGrid R C c → IsInside c p → Through R (row_point p) ⊎ Through C (column_point p)
  at_inside (Segment a b) p h is = elim is [
    | inl up ↦ inr (
      between (column_point a) (column_point b),
      h.columns.along (ap lifted (sym up.0.0 ∙ up.0.1)),
      record {
        line = ap lifted (sym up.0.0);
        from = between_low a.y b.y p.y up.1;
        to = between_high a.y b.y p.y up.1;
      },
    )
    | inr flat ↦ inl (
      between (row_point a) (row_point b),
      h.rows.along (ap lifted (sym flat.0.0 ∙ flat.0.1)),
      record {
        line = ap lifted (sym flat.0.0);
        from = between_low a.x b.x p.x flat.1;
        to = between_high a.x b.x p.x flat.1;
      },
    )
  ]
  at_inside (End q) p h is = absurd is

-- an end of which it is so
some_end : (Q : Point → Type 0) (c : Conductor) → SomeEnd Q c → (p : Point) × IsEnd c p × Q p
some_end Q (Segment a b) h = elim h [ inl q ↦ (a, inl (refl, refl), q) | inr q ↦ (b, inr (refl, refl), q) ]
some_end Q (End at) q = (at, (refl, refl), q)

-- spans through one point meet
meet_at : (s t : Span) (p : LinePoint) → IsThrough s p → IsThrough t p → DoMeet s t
meet_at s t p own other = record {
  together = own.line ∙ sym other.line;
  before = let low = own.from in let high = other.to in omega (arith, low, high);
  after = let low = other.from in let high = own.to in omega (arith, low, high);
}

-- of what touches some spans meet, in the rows or in the columns
module _ (R C S T : Span → Type 0) (Q : Type 0) (in_rows : (s t : Span) → R s → S t → DoMeet s t → Q) (in_columns : (s t : Span) → C s → T t → DoMeet s t → Q)
    (own c : Conductor) (meets : InGrid R C own) (covers : InGrid S T c) where
  by_row : (p : LinePoint) → Through R p → Through S p → Q
  by_row p own other = in_rows own.0 other.0 own.1 other.1 (meet_at own.0 other.0 p own.2 other.2)

  by_column : (p : LinePoint) → Through C p → Through T p → Q
  by_column p own other = in_columns own.0 other.0 own.1 other.1 (meet_at own.0 other.0 p own.2 other.2)

  end_at_end : (p : Point) → IsEnd own p → IsEnd c p → Q
  end_at_end p is other = by_row (row_point p) (row_at_end R C own p meets is) (row_at_end S T c p covers other)

  end_inside : (p : Point) → IsEnd own p → IsInside c p → Q
  end_inside p is inside = elim (at_inside S T c p covers inside) [
    | inl row ↦ by_row (row_point p) (row_at_end R C own p meets is) row
    | inr column ↦ by_column (column_point p) (column_at_end R C own p meets is) column
  ]

  inside_over : (p : Point) → IsInside own p → IsEnd c p → Q
  inside_over p inside is = elim (at_inside R C own p meets inside) [
    | inl row ↦ by_row (row_point p) row (row_at_end S T c p covers is)
    | inr column ↦ by_column (column_point p) column (column_at_end S T c p covers is)
  ]

  pub touching_meets : Touch own c → Q
  touching_meets touch = elim touch [
    | inl ends ↦ let at = some_end (IsEnd c) own ends in end_at_end at.0 at.1 at.2
    | inr inside ↦ elim inside [
      | inl first ↦ let at = some_end (IsInside c) own first in end_inside at.0 at.1 at.2
      | inr second ↦ let at = some_end (IsInside own) c second in inside_over at.0 at.2 at.1
    ]
  ]

-- what is so of a success is so of what follows from it
pub on_ok : {A E P Q R : Type 0} (r : Result A E) → (P → Q → R) → OnOk r P → OnOk r Q → OnOk r R
on_ok (Ok x) f p q = f p q
on_ok (Err e) f p q = p

-- what is so of a span and leads to something else
pub along_to : (P Q : Span → Type 0) (a b : LinePoint) → ((s : Span) → P s → Q s) → Along P a b → Along Q a b
along_to P Q a b to h = record {
  along = λ e. to (between a b) (h.along e);
  first = λ ne. to (between a a) (h.first ne);
  second = λ ne. to (between b b) (h.second ne);
}

-- what keeps the spans under a key keeps its conductor
pub covers_later : (old new : Grid) (k : Key) → ((s : Span) → HasSpan old.rows s k → HasSpan new.rows s k)
    → ((s : Span) → HasSpan old.columns s k → HasSpan new.columns s k) → (c : Conductor) → Covers old c k → Covers new c k
covers_later old new k rows columns c has = record {
  rows = along_to (λ s. HasSpan old.rows s k) (λ s. HasSpan new.rows s k) (row_point (ends_of c).0) (row_point (ends_of c).1) rows has.rows;
  columns = along_to (λ s. HasSpan old.columns s k) (λ s. HasSpan new.columns s k) (column_point (ends_of c).0) (column_point (ends_of c).1) columns has.columns;
}

-- what is so of a span by two claims
pub along_both : (P Q : Span → Type 0) (a b : LinePoint) → Along P a b → Along Q a b → Along (λ s. P s × Q s) a b
along_both P Q a b p q = record {
  along = λ e. (p.along e, q.along e);
  first = λ ne. (p.first ne, q.first ne);
  second = λ ne. (p.second ne, q.second ne);
}

pub along_at : (P : Span → Type 0) (a b x y : LinePoint) → a ≡ x → b ≡ y → Along P a b → Along P x y
along_at P a b x y e f h = subst (λ (p : LinePoint). Along P p y) e (subst (λ (q : LinePoint). Along P a q) f h)

-- the spans between the ends of a conductor are its spans
pub in_grid_by : (R C : Span → Type 0) (c : Conductor) (ends : Point × Point) → ends ≡ ends_of c
    → Along R (row_point ends.0) (row_point ends.1) → Along C (column_point ends.0) (column_point ends.1) → InGrid R C c
in_grid_by R C c ends e rows columns = record {
  rows = subst (λ (p : Point × Point). Along R (row_point p.0) (row_point p.1)) e rows;
  columns = subst (λ (p : Point × Point). Along C (column_point p.0) (column_point p.1)) e columns;
}

-- keys that come along one line, or two
pub met_at : (strips : Strips) (a b x y : LinePoint) (own : Key) (old new : List Key) → a ≡ x → b ≡ y → AddsMetAlong strips a b own old new → AddsMetAlong strips x y own old new
met_at strips a b x y own old new e f h =
    subst (λ (p : LinePoint). AddsMetAlong strips p y own old new) e (subst (λ (q : LinePoint). AddsMetAlong strips a q own old new) f h)

pub met_in : (grid : Grid) (c : Conductor) (own : Key) (old mid new : List Key) (ends : Point × Point) → ends ≡ ends_of c
    → AddsMetAlong grid.rows (row_point ends.0) (row_point ends.1) own old mid → AddsMetAlong grid.columns (column_point ends.0) (column_point ends.1) own mid new → AddsMetIn grid c own old new
met_in grid c own old mid new ends e rows columns k h = elim (subst (λ (p : Point × Point). AddsMetAlong grid.columns (column_point p.0) (column_point p.1) own mid new) e columns k h) [
  | inl m ↦ elim (subst (λ (p : Point × Point). AddsMetAlong grid.rows (row_point p.0) (row_point p.1) own old mid) e rows k m) [ inl o ↦ inl o | inr is ↦ inr (inl is) ]
  | inr is ↦ inr (inr is)
]

-- what is so of one of the spans, and of each of them by another claim
pub some_both : (P H : Span → Type 0) (Q : Type 0) (a b : LinePoint) → ((s : Span) → P s → H s → Q) → SomeAlong P a b → Along H a b → Q
some_both P H Q a b to some all = elim some [
  | inl along ↦ to (between a b) along.1 (all.along along.0)
  | inr points ↦ elim points.1 [ inl p ↦ to (between a a) p (all.first points.0) | inr p ↦ to (between b b) p (all.second points.0) ]
]
