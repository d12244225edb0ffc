-- How fields are cut off.
use Rattle.std.proofs.Common.{◌≡◌, ℕ, zero, suc, ◌+◌, ◌<◌, ◌≤◌, true, false, List, [], ◌∷◌, length, take, drop, filter, Some, None, eqb, refl, sym, ap, subst, ◌∙◌, arith}
use Rattle.std.specs.List.{position, slice_split, position_or_len, after_first}
use Rattle.std.proofs.lemmas.List.Sums.{length-filter, count_by-le-length}
use Rattle.std.proofs.lemmas.List.Splits.{length-slice_split, slice_split-cons_yes, slice_split_first}
use Rattle.std.proofs.lemmas.Bool.{eqb-true}
use Rattle.geda_text.specs.Lines.{is_blank, is_filled, fields_of}
use Rattle.geda_text.specs.steps.Words.{StartsWord}
use Rattle.geda_text.proofs.Positions.{found, one_piece}

-- blanks before a field are skipped
pub fields_of-blank : (b : ℕ) (bs : List ℕ) → is_blank b ≡ true → fields_of (b ∷ bs) ≡ fields_of bs
unfolding fields_of
fields_of-blank b bs h = ap (filter is_filled) (slice_split-cons_yes is_blank b bs h)

filled_take : (n b : ℕ) (bs : List ℕ) → 0 < n → is_filled (take n (b ∷ bs)) ≡ true
filled_take zero b bs h = absurd (omega arith)
filled_take (suc n) b bs h = refl

filter_filled : (w : List ℕ) (ws : List (List ℕ)) → is_filled w ≡ true → filter is_filled (w ∷ ws) ≡ w ∷ filter is_filled ws
filter_filled w ws h = rw h refl

-- a blank behind a field ends it
pub fields_of-some : (bs : List ℕ) (end : ℕ) → 0 < length bs → StartsWord bs → position is_blank bs ≡ Some end → fields_of bs ≡ take end bs ∷ fields_of (drop (end + 1) bs)
unfolding fields_of
fields_of-some [] end h s e = absurd (omega arith)
fields_of-some (b ∷ bs) end h s e =
    let at = found is_blank (b ∷ bs) end e in
    let some : 0 < position_or_len is_blank (b ∷ bs) = some_first b bs s in
    let all : fields_of (b ∷ bs) ≡ take (position_or_len is_blank (b ∷ bs)) (b ∷ bs) ∷ fields_of (drop (position_or_len is_blank (b ∷ bs) + 1) (b ∷ bs)) =
    ap (filter is_filled) (slice_split_first is_blank (b ∷ bs) 0 at.within) ∙ filter_filled _ (slice_split is_blank (after_first is_blank (b ∷ bs))) (filled_take (position_or_len is_blank (b ∷ bs)) b bs some) in
    subst (λ (n : ℕ). fields_of (b ∷ bs) ≡ take n (b ∷ bs) ∷ fields_of (drop (n + 1) (b ∷ bs))) at.first all
  where
    some_first : (b : ℕ) (bs : List ℕ) → is_blank b ≡ false → 0 < position_or_len is_blank (b ∷ bs)
    some_first b bs h = rw h (omega arith)

pub fields_of-none : (bs : List ℕ) → 0 < length bs → StartsWord bs → position is_blank bs ≡ None → fields_of bs ≡ bs ∷ fields_of []
unfolding fields_of
fields_of-none [] h s e = absurd (omega arith)
fields_of-none (b ∷ bs) h s e = ap (filter is_filled) (one_piece is_blank (b ∷ bs) e)

pub no_fields : (bs : List ℕ) → true ≡ eqb (length bs) 0 → fields_of bs ≡ []
unfolding fields_of
no_fields [] e = refl
no_fields (b ∷ bs) e = absurd (omega (arith, eqb-true _ _ (sym e)))

-- a line has no more fields than bytes and one
pub few : (bs : List ℕ) → length (fields_of bs) ≤ length bs + 1
unfolding fields_of
few bs = omega (arith, length-filter is_filled (slice_split is_blank bs), count_by-le-length is_filled (slice_split is_blank bs), length-slice_split is_blank bs, count_by-le-length is_blank bs)
