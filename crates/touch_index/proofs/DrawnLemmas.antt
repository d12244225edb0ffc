-- The marks that conductors have in a grid, and which of them touch.
use Rattle.std.proofs.Common.{arith, ◌≡◌, ◌≢◌, ◌⊎◌, inl, inr, ℕ, ◌≤◌, ◌<◌, min, max, ℤ, pos, negsuc, w32, SFits, Option, Some, refl, sym, ap, subst, ◌∙◌}
use Rattle.std.specs.Prelude.{◌<ℤ◌}
use Rattle.std.proofs.lemmas.Int.{ints}
use Rattle.geda_geom.specs.declared.conductor.Key.{Key}
use Rattle.geda_geom.specs.declared.conductor.Point.{Point}
use Rattle.geda_geom.specs.declared.conductor.Conductor.{Conductor}
use Rattle.geda_geom.specs.declared.conductor.Conductor.TheVariants.{Segment, End}
use Rattle.geda_geom.specs.Touch.{IsAt, IsBetween, IsEnd, IsInside, IsLevel, SomeEnd, Touch}
use Rattle.geda_geom.proofs.TouchLemmas.{touch_turn}
use Rattle.touch_index.specs.declared.grid.Grid.{Grid}
use Rattle.touch_index.specs.declared.grid.LinePoint.{LinePoint}
use Rattle.touch_index.specs.declared.strips.Strips.{Strips}
use Rattle.touch_index.specs.declared.spans.Mark.{Mark}
use Rattle.touch_index.specs.declared.spans.Span.{Span}
use Rattle.touch_index.specs.Index.{DoTouch}
use Rattle.touch_index.specs.steps.Spans.{DoMeet, mark_of, span_of}
use Rattle.touch_index.specs.steps.Strips.{AddsMarkTo, TakesMark}
use Rattle.touch_index.specs.steps.Grid.{IsThrough, between, column_point, ends_of, lifted, row_point}
use Rattle.touch_index.specs.steps.Drawn.{AddsAlong, AddsMarks, HasPlaces, IsAlong, IsDrawn, IsHeld, IsMarkOf, IsPlace, LosesAlong, LosesMarks}
use Rattle.touch_index.proofs.MarkLemmas.{span_of-mark_of}

pub held : (z : ℤ) → SFits w32 z → IsHeld z
held (pos n) fits = omega (arith, ints)
held (negsuc n) fits = omega (arith, ints)

-- marks that come
pub adds_one : (a b : LinePoint) (key : Key) (s : Span) (old new : Strips) → a.line ≡ b.line → s ≡ between a b → AddsMarkTo (mark_of s key) old new → AddsAlong a b key old new
adds_one a b key s old new line is adds m h = elim (adds m h) [
  | inl was ↦ inl was
  | inr e ↦ inr (inl (line, e ∙ ap (λ (t : Span). mark_of t key) is))
]

pub adds_first : (a b : LinePoint) (key : Key) (s : Span) (old new : Strips) → a.line ≢ b.line → s ≡ between a a → AddsMarkTo (mark_of s key) old new → AddsAlong a b key old new
adds_first a b key s old new apart is adds m h = elim (adds m h) [
  | inl was ↦ inl was
  | inr e ↦ inr (inr (apart, inl (e ∙ ap (λ (t : Span). mark_of t key) is)))
]

pub adds_second : (a b : LinePoint) (key : Key) (s : Span) (old new : Strips) → a.line ≢ b.line → s ≡ between b b → AddsMarkTo (mark_of s key) old new → AddsAlong a b key old new
adds_second a b key s old new apart is adds m h = elim (adds m h) [
  | inl was ↦ inl was
  | inr e ↦ inr (inr (apart, inr (e ∙ ap (λ (t : Span). mark_of t key) is)))
]

pub adds_both : (a b : LinePoint) (key : Key) (old mid new : Strips) → AddsAlong a b key old mid → AddsAlong a b key mid new → AddsAlong a b key old new
adds_both a b key old mid new first second m h = elim (second m h) [ inl was ↦ first m was | inr is ↦ inr is ]

pub adds_none : (a b : LinePoint) (key : Key) (old : Strips) → AddsAlong a b key old old
adds_none a b key old m h = inl h

pub adds_at : (a b x y : LinePoint) (key : Key) (old new : Strips) → a ≡ x → b ≡ y → AddsAlong a b key old new → AddsAlong x y key old new
adds_at a b x y key old new e f h = subst (λ (p : LinePoint). AddsAlong p y key old new) e (subst (λ (q : LinePoint). AddsAlong a q key old new) f h)

pub adds_marks : (c : Conductor) (key : Key) (old new : Grid) (ends : Point × Point) → ends ≡ ends_of c → IsPlace ends.0 → IsPlace ends.1
    → AddsAlong (row_point ends.0) (row_point ends.1) key old.rows new.rows → AddsAlong (column_point ends.0) (column_point ends.1) key old.columns new.columns → AddsMarks c key old new
adds_marks c key old new ends e first second rows columns = record {
  places = record {
    first = subst (λ (p : Point × Point). IsPlace p.0) e first;
    second = subst (λ (p : Point × Point). IsPlace p.1) e second;
  };
  rows = subst (λ (p : Point × Point). AddsAlong (row_point p.0) (row_point p.1) key old.rows new.rows) e rows;
  columns = subst (λ (p : Point × Point). AddsAlong (column_point p.0) (column_point p.1) key old.columns new.columns) e columns;
}

-- marks that go
pub loses_one : (a b : LinePoint) (key : Key) (s : Span) (old new : Strips) → a.line ≡ b.line → s ≡ between a b → TakesMark (mark_of s key) old new → LosesAlong a b key old new
loses_one a b key s old new line is loses m h = (
  (loses m h).0,
  λ some. elim some [
    | inl along ↦ (loses m h).1 (along.1 ∙ ap (λ (t : Span). mark_of t key) (sym is))
    | inr points ↦ points.0 line
  ],
)

pub loses_both : (a b : LinePoint) (key : Key) (s t : Span) (old mid new : Strips) → a.line ≢ b.line → s ≡ between a a → t ≡ between b b
    → TakesMark (mark_of s key) old mid → TakesMark (mark_of t key) mid new → LosesAlong a b key old new
loses_both a b key s t old mid new apart first second before after m h =
    let mid_has = after m h in
    let old_has = before m mid_has.0 in (
      old_has.0,
      λ some. elim some [
        | inl along ↦ apart along.0
        | inr points ↦ elim points.1 [
          | inl e ↦ old_has.1 (e ∙ ap (λ (u : Span). mark_of u key) (sym first))
          | inr e ↦ mid_has.1 (e ∙ ap (λ (u : Span). mark_of u key) (sym second))
        ]
      ],
    )

pub loses_at : (a b x y : LinePoint) (key : Key) (old new : Strips) → a ≡ x → b ≡ y → LosesAlong a b key old new → LosesAlong x y key old new
loses_at a b x y key old new e f h = subst (λ (p : LinePoint). LosesAlong p y key old new) e (subst (λ (q : LinePoint). LosesAlong a q key old new) f h)

pub loses_marks : (c : Conductor) (key : Key) (old new : Grid) (ends : Point × Point) → ends ≡ ends_of c
    → LosesAlong (row_point ends.0) (row_point ends.1) key old.rows new.rows → LosesAlong (column_point ends.0) (column_point ends.1) key old.columns new.columns → LosesMarks c key old new
loses_marks c key old new ends e rows columns = record {
  rows = subst (λ (p : Point × Point). LosesAlong (row_point p.0) (row_point p.1) key old.rows new.rows) e rows;
  columns = subst (λ (p : Point × Point). LosesAlong (column_point p.0) (column_point p.1) key old.columns new.columns) e columns;
}

pub along_key : (a b : LinePoint) (key : Key) (m : Mark) → IsAlong a b key m → m.key ≡ key
along_key a b key m is = elim is [
  | inl along ↦ ap (λ (n : Mark). n.key) along.1
  | inr points ↦ elim points.1 [ inl e ↦ ap (λ (n : Mark). n.key) e | inr e ↦ ap (λ (n : Mark). n.key) e ]
]

-- coordinates that are held keep apart
pub lifted_same : (x y : ℤ) → IsHeld x → IsHeld y → lifted x ≡ lifted y → x ≡ y
lifted_same (pos a) (pos b) p q e = let same : a ≡ b = omega (arith, e) in ap pos same
lifted_same (pos a) (negsuc b) p q e = absurd (omega (arith, e, q))
lifted_same (negsuc a) (pos b) p q e = absurd (omega (arith, e, p))
lifted_same (negsuc a) (negsuc b) p q e = let same : a ≡ b = omega (arith, e, p, q) in ap negsuc same

lifted_less : (x y : ℤ) → IsHeld x → IsHeld y → lifted x < lifted y → x <ℤ y
lifted_less (pos a) (pos b) p q h = grind (arith, h)
lifted_less (pos a) (negsuc b) p q h = absurd (omega (arith, h))
lifted_less (negsuc a) (pos b) p q h = grind (arith, h)
lifted_less (negsuc a) (negsuc b) p q h = grind (arith, h, p, q)

pub lifted_most : (x : ℤ) → IsHeld x → lifted x ≤ 4294967295
lifted_most (pos a) h = omega (arith, h)
lifted_most (negsuc a) h = omega (arith, h)

nat_order : (a b : ℕ) → (a ≡ b) ⊎ ((a < b) ⊎ (b < a))
nat_order a b = grind arith

-- what does not lie outside two numbers is one of them, or lies between
inside_cases : (q r p : ℤ) → IsHeld q → IsHeld r → IsHeld p → min (lifted q) (lifted r) ≤ lifted p → lifted p ≤ max (lifted q) (lifted r)
    → (p ≡ q) ⊎ ((p ≡ r) ⊎ IsBetween q r p)
inside_cases q r p hq hr hp low high = elim (nat_order (lifted p) (lifted q)) [
  | inl e ↦ inl (lifted_same p q hp hq e)
  | inr first ↦ elim (nat_order (lifted p) (lifted r)) [
    | inl e ↦ inr (inl (lifted_same p r hp hr e))
    | inr second ↦ elim first [
      | inl under ↦ elim second [
        | inl both ↦ absurd (omega (arith, low, under, both))
        | inr over ↦ inr (inr (inr (lifted_less r p hr hp over, lifted_less p q hp hq under)))
      ]
      | inr over ↦ elim second [
        | inl under ↦ inr (inr (inl (lifted_less q p hq hp over, lifted_less p r hp hr under)))
        | inr both ↦ absurd (omega (arith, high, over, both))
      ]
    ]
  ]
]

-- a span of a conductor begins at an end of it, and runs through points of it alone
pub record IsPart (lie : Point → LinePoint) (c : Conductor) (s : Span) : Type 0 where
  pub start : Point
  pub place : IsPlace start
  pub is_end : IsEnd c start
  pub line : s.line ≡ (lie start).line
  pub from : s.from ≡ (lie start).at
  pub through : (p : Point) → IsPlace p → IsThrough s (lie p) → IsEnd c p ⊎ IsInside c p

pub record IsAxis (f g : Point → ℤ) : Type 0 where
  pub at : (p q : Point) → f p ≡ f q → g p ≡ g q → IsAt p q
  pub inside : (a b p : Point) → IsLevel (f a) (f b) (f p) → IsBetween (g a) (g b) (g p) → IsInside (Segment a b) p
  pub first : (p : Point) → IsPlace p → IsHeld (f p)
  pub second : (p : Point) → IsPlace p → IsHeld (g p)

pub rows_axis : IsAxis (λ p. p.y) (λ p. p.x)
rows_axis = record {
  at = λ p q f g. (g, f);
  inside = λ a b p level between. inr (level, between);
  first = λ p h. h.y;
  second = λ p h. h.x;
}

pub columns_axis : IsAxis (λ p. p.x) (λ p. p.y)
columns_axis = record {
  at = λ p q f g. (f, g);
  inside = λ a b p level between. inl (level, between);
  first = λ p h. h.x;
  second = λ p h. h.y;
}

module _ (f g : Point → ℤ) (axis : IsAxis f g) where
  abbrev lie : Point → LinePoint
  lie p = record { line = lifted (f p); at = lifted (g p) }

  -- a point as a span
  point_part : (c : Conductor) (e : Point) → IsPlace e → IsEnd c e → ((p : Point) → IsAt p e → IsEnd c p) → IsPart lie c (between (lie e) (lie e))
  point_part c e place is is_end = record {
    start = e;
    place = place;
    is_end = is;
    line = refl;
    from = omega arith;
    through = λ p held through.
        let low = through.from in
        let high = through.to in
        let same : lifted (g p) ≡ lifted (g e) = omega (arith, low, high) in
        inl (is_end p (axis.at p e
        (lifted_same (f p) (f e) (axis.first p held) (axis.first e place) (sym through.line))
        (lifted_same (g p) (g e) (axis.second p held) (axis.second e place) same)));
  }

  segment_through : (a b : Point) → IsPlace a → IsPlace b → (lie a).line ≡ (lie b).line → (p : Point) → IsPlace p → IsThrough (between (lie a) (lie b)) (lie p)
      → IsEnd (Segment a b) p ⊎ IsInside (Segment a b) p
  segment_through a b pa pb level p held through =
      let fa : f p ≡ f a = lifted_same (f p) (f a) (axis.first p held) (axis.first a pa) (sym through.line) in
      let fb : f p ≡ f b = lifted_same (f p) (f b) (axis.first p held) (axis.first b pb) (sym through.line ∙ level) in
      elim (inside_cases (g a) (g b) (g p) (axis.second a pa) (axis.second b pb) (axis.second p held) through.from through.to) [
        | inl e ↦ inl (inl (axis.at p a fa e))
        | inr o ↦ elim o [
          | inl e ↦ inl (inr (axis.at p b fb e))
          | inr within ↦ inr (axis.inside a b p (fa, fb) within)
        ]
      ]

  segment_part : (a b : Point) → IsPlace a → IsPlace b → (lie a).line ≡ (lie b).line → IsPart lie (Segment a b) (between (lie a) (lie b))
  segment_part a b pa pb level = elim (least_of (lifted (g a)) (lifted (g b))) [
    | inl low ↦ record { start = a; place = pa; is_end = inl (refl, refl); line = refl; from = omega (arith, low); through = segment_through a b pa pb level }
    | inr low ↦ record { start = b; place = pb; is_end = inr (refl, refl); line = level; from = omega (arith, low); through = segment_through a b pa pb level }
  ]
    where
      least_of : (x y : ℕ) → (x ≤ y) ⊎ (y ≤ x)
      least_of x y = grind arith

  -- the span of each mark of a conductor is a part of it
  mark_part : (c : Conductor) (key : Key) (m : Mark) → HasPlaces c → IsMarkOf lie c key m → IsPart lie c (span_of m)
  mark_part (Segment a b) key m places is = elim is [
    | inl along ↦ of_span (between (lie a) (lie b)) along.1
        (let x = lifted_most (g a) (axis.second a places.first) in let y = lifted_most (g b) (axis.second b places.second) in omega (arith, x, y))
        (segment_part a b places.first places.second along.0)
    | inr points ↦ elim points.1 [
      | inl e ↦ of_span (between (lie a) (lie a)) e (let x = lifted_most (g a) (axis.second a places.first) in omega (arith, x))
          (point_part (Segment a b) a places.first (inl (refl, refl)) (λ p at. inl at))
      | inr e ↦ of_span (between (lie b) (lie b)) e (let x = lifted_most (g b) (axis.second b places.second) in omega (arith, x))
          (point_part (Segment a b) b places.second (inr (refl, refl)) (λ p at. inr at))
    ]
  ]
    where
      of_span : (s : Span) → m ≡ mark_of s key → s.to ≤ 4294967295 → IsPart lie (Segment a b) s → IsPart lie (Segment a b) (span_of m)
      of_span s e most part = subst (IsPart lie (Segment a b)) (sym (ap span_of e ∙ span_of-mark_of s key most)) part
  mark_part (End at) key m places is = elim is [
    | inl along ↦ of_point along.1
    | inr points ↦ elim points.1 [ inl e ↦ of_point e | inr e ↦ of_point e ]
  ]
    where
      of_point : m ≡ mark_of (between (lie at) (lie at)) key → IsPart lie (End at) (span_of m)
      of_point e =
          let x = lifted_most (g at) (axis.second at places.first) in
          subst (IsPart lie (End at)) (sym (ap span_of e ∙ span_of-mark_of (between (lie at) (lie at)) key (omega (arith, x))))
          (point_part (End at) at places.first (refl, refl) (λ p is_at. is_at))

same_point : (p q : Point) → IsAt p q → p ≡ q
same_point p q at = λ i. record { x = at.0 i; y = at.1 i }

-- no mark of a conductor ends before it begins
module _ (f g : Point → ℤ) (axis : IsAxis f g) where
  span_proper : (a b : Point) (key : Key) (m : Mark) → IsPlace a → IsPlace b → m ≡ mark_of (between (record { line = lifted (f a); at = lifted (g a) }) (record { line = lifted (f b); at = lifted (g b) })) key → m.from ≤ (span_of m).to
  span_proper a b key m pa pb e =
      let x = lifted_most (g a) (axis.second a pa) in
      let y = lifted_most (g b) (axis.second b pb) in
      subst (λ (n : Mark). n.from ≤ (span_of n).to) (sym e) (omega (arith, x, y))

  pub along_proper : (c : Conductor) (key : Key) (m : Mark) → HasPlaces c → IsMarkOf (λ p. record { line = lifted (f p); at = lifted (g p) }) c key m → m.from ≤ (span_of m).to
  along_proper c key m places is = elim is [
    | inl along ↦ span_proper (ends_of c).0 (ends_of c).1 key m places.first places.second along.1
    | inr points ↦ elim points.1 [
      | inl e ↦ span_proper (ends_of c).0 (ends_of c).0 key m places.first places.first e
      | inr e ↦ span_proper (ends_of c).1 (ends_of c).1 key m places.second places.second e
    ]
  ]

-- an end of a conductor of which it is so
end_some : (Q : Point → Type 0) (c : Conductor) (p : Point) → IsEnd c p → Q p → SomeEnd Q c
end_some Q (Segment a b) p is q = elim is [
  | inl at ↦ inl (subst Q (same_point p a at) q)
  | inr at ↦ inr (subst Q (same_point p b at) q)
]
end_some Q (End e) p at q = subst Q (same_point p e at) q

-- a part that begins in another one touches it
begins_in : (lie : Point → LinePoint) (c d : Conductor) (s t : Span) → IsPart lie c s → IsPart lie d t → DoMeet s t → t.from ≤ s.from → Touch c d
begins_in lie c d s t first second meet late = elim (second.through first.start first.place (record {
  line = sym meet.together ∙ first.line;
  from = subst (λ (x : ℕ). t.from ≤ x) first.from late;
  to = subst (λ (x : ℕ). x ≤ t.to) first.from meet.before;
})) [
  | inl ends ↦ inl (end_some (IsEnd d) c first.start first.is_end ends)
  | inr inside ↦ inr (inl (end_some (IsInside d) c first.start first.is_end inside))
]

-- what has parts that meet touches
pub parts_touch : (lie : Point → LinePoint) (c d : Conductor) (s t : Span) → IsPart lie c s → IsPart lie d t → DoMeet s t → Touch c d
parts_touch lie c d s t first second meet = elim (in_order t.from s.from) [
  | inl late ↦ begins_in lie c d s t first second meet late
  | inr late ↦ touch_turn d c (begins_in lie d c t s second first (record { together = sym meet.together; before = meet.after; after = meet.before }) late)
]
  where
    in_order : (x y : ℕ) → (x ≤ y) ⊎ (y ≤ x)
    in_order x y = grind arith

both_there : (f g : Option Conductor) (c d : Conductor) → f ≡ Some c → g ≡ Some d → Touch c d → DoTouch f g
both_there f g c d e h touch = subst (λ (o : Option Conductor). DoTouch o g) (sym e) (subst (λ (o : Option Conductor). DoTouch (Some c) o) (sym h) touch)

-- marks that meet are those of conductors that touch
module _ (at : Key → Option Conductor) (f g : Point → ℤ) (axis : IsAxis f g) where
  abbrev Lies : Mark → Type 0
  Lies = IsDrawn at (λ p. record { line = lifted (f p); at = lifted (g p) })

  pub marks_touch : (m n : Mark) → Lies m → Lies n → DoMeet (span_of m) (span_of n) → DoTouch (at m.key) (at n.key)
  marks_touch m n first second meet =
      both_there (at m.key) (at n.key) first.conductor second.conductor first.there second.there
      (parts_touch (λ p. record { line = lifted (f p); at = lifted (g p) }) first.conductor second.conductor (span_of m) (span_of n)
      (mark_part f g axis first.conductor m.key m first.places first.mark) (mark_part f g axis second.conductor n.key n second.places second.mark) meet)

  pub mark_proper : (m : Mark) → Lies m → m.from ≤ (span_of m).to
  mark_proper m is = along_proper f g axis is.conductor m.key m is.places is.mark
