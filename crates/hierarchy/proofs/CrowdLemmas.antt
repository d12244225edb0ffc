-- Ways that are too many stay too many, as they grow.
use Rattle.std.proofs.Common.{◌≡◌, ◌<◌, ◌≤◌, ◌+◌, ℕ, zero, suc, List, [], ◌∷◌, ◌++◌, length, get_or, refl, sym, subst, length-append, inl, inr, arith}
use Rattle.std.specs.Prelude.{All, Any, flat_map, sum_by}
use Rattle.std.proofs.lemmas.Bool.{cases_lt}
use Rattle.std.proofs.lemmas.List.{get_or_default}
use Rattle.std.proofs.lemmas.List.Sums.{sum_by-append, sum_by-cons}
use Rattle.hierarchy.specs.SheetTable.{TableSheetData}
use Rattle.hierarchy.specs.Ways.{WayData, ways_within}
use Rattle.hierarchy.specs.Crowded.{AreTooMany, IsDeep, weight_of}
use Rattle.hierarchy.specs.steps.Widening.{widened, children_at}
use Rattle.hierarchy.proofs.ListLemmas.{contains_flat_map}
use Rattle.hierarchy.proofs.WideningLemmas.{ways_next}

module _ (sheets : List TableSheetData) where
  longer : (d : ℕ) (ws : List WayData) → length ws ≤ length (flat_map (widened sheets d) ws)
  longer d [] = omega arith
  longer d (w ∷ ws) = let len = length-append (children_at sheets d w) (flat_map (widened sheets d) ws) in omega (arith, longer d ws)

  heavier : (f : WayData → ℕ) (d : ℕ) (ws : List WayData) → sum_by f ws ≤ sum_by f (flat_map (widened sheets d) ws)
  heavier f d [] = omega arith
  heavier f d (w ∷ ws) =
      omega (arith, heavier f d ws, sum_by-cons f w ws, sum_by-cons f w (children_at sheets d w ++ flat_map (widened sheets d) ws), sum_by-append f (children_at sheets d w) (flat_map (widened sheets d) ws))

  deeper : (d : ℕ) (ws : List WayData) → Any IsDeep ws → Any IsDeep (flat_map (widened sheets d) ws)
  deeper d ws any =
      let c = contains_flat_map (widened sheets d) ws any.1 any.1 (any.0, any.2, any.3) (0, omega arith, refl) in
      (c.0, any.1, c.1, c.2, any.4)

  too_many_wider : (d : ℕ) (ws : List WayData) → AreTooMany sheets ws → AreTooMany sheets (flat_map (widened sheets d) ws)
  too_many_wider d ws many = elim many [
    | inl count ↦ inl (omega (arith, longer d ws))
    | inr rest ↦ inr (elim rest [ inl any ↦ inl (deeper d ws any) | inr heavy ↦ inr (omega (arith, heavier (weight_of sheets) d ws)) ])
  ]

  pub too_many_later : (n k : ℕ) → AreTooMany sheets (ways_within sheets n) → AreTooMany sheets (ways_within sheets (k + n))
  too_many_later n zero many = let e : n ≡ 0 + n = omega arith in subst (λ (m : ℕ). AreTooMany sheets (ways_within sheets m)) e many
  too_many_later n (suc k) many =
      let e : suc (k + n) ≡ suc k + n = omega arith in
      subst (λ (m : ℕ). AreTooMany sheets (ways_within sheets m)) e
      (subst (AreTooMany sheets) (sym (ways_next sheets (k + n))) (too_many_wider (k + n) (ways_within sheets (k + n)) (too_many_later n k many)))

-- ways none of which is deep are short
pub short_ways : (ws : List WayData) → (Any IsDeep ws → ⊥) → All (λ w. length w.steps < 17) ws
short_ways ws none k d h = elim (cases_lt 16 (length (get_or ws k d).steps)) [
  | inl deep ↦ absurd (none (k, get_or ws k d, h, get_or_default ws k (get_or ws k d) d h, deep))
  | inr low ↦ omega arith
]
