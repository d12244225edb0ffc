-- Rows that count because a segment lies along them.
use Rattle.std.proofs.Common.{◌≡◌, ◌<◌, ◌+◌, ◌%◌, ℕ, Bool, true, List, length, sym, ap, subst, ◌∙◌, inl, inr, arith}
use Rattle.std.specs.Prelude.{slice_index_or, slice_set}
use Rattle.std.proofs.lemmas.Bool.{cases_eq}
use Rattle.std.proofs.lemmas.List.{get_or-set_other, get_or-set_same}
use Rattle.geda_geom.specs.declared.conductor.Point.{Point}
use Rattle.geda_geom.specs.declared.conductor.Conductor.{Conductor}
use Rattle.geda_geom.specs.declared.conductor.Conductor.TheVariants.{Segment}
use Rattle.pair_classes.proofs.ListLemmas.{earlier_or_here}
use Rattle.sheet_groups.specs.declared.drawn.DrawnConductor.{DrawnConductor}
use Rattle.sheet_groups.specs.steps.Rows.{AreRowsOf, IsAlong, StandsAt, lifted, row_counts, seen}

-- a flag that is put stays
pub flag_kept : (rows : List Bool) (row i : ℕ) → row < length rows → slice_index_or rows i true ≡ true → slice_index_or (slice_set rows row true) i true ≡ true
flag_kept rows row i within has = elim (cases_eq i row) [
  | inl e ↦ subst (λ (k : ℕ). slice_index_or (slice_set rows row true) k true ≡ true) (sym e) (get_or-set_same rows row true true within)
  | inr ne ↦ get_or-set_other rows row i true true ne ∙ has
]

-- what lies along a row has its number
pub row_marked : (rows : List Bool) (a b p : Point) (row : ℕ) → row ≡ lifted a.y % 4096 → slice_index_or rows row true ≡ true → IsAlong (Segment a b) p → row_counts rows p ≡ true
row_marked rows a b p row is marked along =
    subst (λ (k : ℕ). slice_index_or rows k true ≡ true) (is ∙ ap (λ (y : ℕ). y % 4096) (ap lifted (sym along.0.0))) marked

-- a segment from one row to another lies along none
pub not_along : {P : Type 0} (a b p : Point) → (lifted a.y ≡ lifted b.y → ⊥) → IsAlong (Segment a b) p → P
not_along a b p apart along = absurd (apart (ap lifted (sym along.0.0 ∙ along.0.1)))

-- no conductor yet
pub no_rows : (by_columns : Bool) (cs : List DrawnConductor) (rows : List Bool) → AreRowsOf by_columns cs 0 rows
no_rows by_columns cs rows i sheet shape p lt = absurd (omega (arith, lt))

-- one conductor more
pub next_rows : (by_columns : Bool) (cs : List DrawnConductor) (count : ℕ) (old new : List Bool) (d : DrawnConductor) (shape : Conductor)
    → shape ≡ seen by_columns (slice_index_or cs count d).shape
    → ((p : Point) → IsAlong shape p → row_counts new p ≡ true)
    → ((p : Point) → row_counts old p ≡ true → row_counts new p ≡ true)
    → AreRowsOf by_columns cs count old → AreRowsOf by_columns cs (count + 1) new
next_rows by_columns cs count old new d shape is marked kept are i sheet other p lt there along = elim (earlier_or_here i count lt) [
  | inl less ↦ kept p (are i sheet other p less there along)
  | inr now ↦
      let here = subst (λ (k : ℕ). StandsAt cs k sheet other) now there in
      marked p (subst (λ (c : Conductor). IsAlong c p) (sym (is ∙ ap (seen by_columns) (here.drawn d))) along)
]
