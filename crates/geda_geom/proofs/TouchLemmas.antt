-- Touching goes both ways, and a crossing is none.
use Rattle.std.proofs.Common.{◌≡◌, ℤ, arith, sym, ◌∙◌, inl, inr, refl}
use Rattle.geda_geom.specs.declared.conductor.Point.{Point}
use Rattle.geda_geom.specs.declared.conductor.Conductor.{Conductor}
use Rattle.geda_geom.specs.declared.conductor.Conductor.TheVariants.{Segment, End}
use Rattle.geda_geom.specs.Touch.{IsAt, IsBetween, IsEnd, IsInside, AreCrossing, SomeEnd, Touch}

at_turn : (p q : Point) → IsAt p q → IsAt q p
at_turn p q e = (sym e.0, sym e.1)

ends_turn : (a b : Conductor) → SomeEnd (IsEnd b) a → SomeEnd (IsEnd a) b
ends_turn (Segment p q) (Segment r s) e = elim e [
  | inl x ↦ elim x [ inl y ↦ inl (inl (at_turn p r y)) | inr y ↦ inr (inl (at_turn p s y)) ]
  | inr x ↦ elim x [ inl y ↦ inl (inr (at_turn q r y)) | inr y ↦ inr (inr (at_turn q s y)) ]
]
ends_turn (Segment p q) (End at) e =
    elim e [ inl x ↦ inl (at_turn p at x) | inr x ↦ inr (at_turn q at x) ]
ends_turn (End at) (Segment r s) e =
    elim e [ inl x ↦ inl (at_turn at r x) | inr x ↦ inr (at_turn at s x) ]
ends_turn (End at) (End other) e = at_turn at other e

-- touching goes both ways
pub touch_turn : (a b : Conductor) → Touch a b → Touch b a
touch_turn a b touch = elim touch [
  | inl ends ↦ inl (ends_turn a b ends)
  | inr inside ↦ elim inside [ inl x ↦ inr (inr x) | inr x ↦ inr (inl x) ]
]

-- what lies strictly between two numbers is neither
not_first : (q r p : ℤ) → IsBetween q r p → p ≡ q → ⊥
not_first q r p between e = grind (arith, between, e)

not_second : (q r p : ℤ) → IsBetween q r p → p ≡ r → ⊥
not_second q r p between e = grind (arith, between, e)

module _ (a b c d : Point) (h : AreCrossing a b c d) where
  -- an end of the vertical one lies on neither end of the horizontal one, nor inside it
  end_apart : (p : Point) → p.x ≡ a.x → IsEnd (Segment c d) p → ⊥
  end_apart p x is = elim is [
    | inl at ↦ not_first c.x d.x a.x h.passes_across (sym x ∙ at.0)
    | inr at ↦ not_second c.x d.x a.x h.passes_across (sym x ∙ at.0)
  ]

  upright_apart : (p : Point) → p.x ≡ a.x → (c.y ≡ p.y → ⊥) → IsInside (Segment c d) p → ⊥
  upright_apart p x apart is = elim is [
    | inl inside ↦ not_first c.x d.x a.x h.passes_across (sym x ∙ inside.0.0)
    | inr inside ↦ apart (sym inside.0.0)
  ]

  -- nor does an end of the horizontal one lie inside the vertical one
  flat_apart : (p : Point) → p.y ≡ c.y → (a.x ≡ p.x → ⊥) → IsInside (Segment a b) p → ⊥
  flat_apart p y apart is = elim is [
    | inl inside ↦ apart (sym inside.0.0)
    | inr inside ↦ not_first a.y b.y c.y h.passes_up (sym y ∙ inside.0.0)
  ]

-- a crossing is no touch
pub crossing_apart : (a b c d : Point) → AreCrossing a b c d
    → Touch (Segment a b) (Segment c d) → ⊥
crossing_apart a b c d h touch = elim touch [
  | inl ends ↦ elim ends [
    | inl e ↦ end_apart a b c d h a refl e
    | inr e ↦ end_apart a b c d h b (sym h.upright) e
  ]
  | inr inside ↦ elim inside [
    | inl first ↦ elim first [
      | inl e ↦ upright_apart a b c d h a refl (not_first a.y b.y c.y h.passes_up) e
      | inr e ↦ upright_apart a b c d h b (sym h.upright) (not_second a.y b.y c.y h.passes_up) e
    ]
    | inr second ↦ elim second [
      | inl e ↦ flat_apart a b c d h c refl (not_first c.x d.x a.x h.passes_across) e
      | inr e ↦ flat_apart a b c d h d (sym h.flat) (not_second c.x d.x a.x h.passes_across) e
    ]
  ]
]
