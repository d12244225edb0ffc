-- How lines are cut off.
use Rattle.std.proofs.Common.{◌≡◌, ◌≢◌, ℕ, suc, ◌+◌, ◌<◌, Bool, true, false, cond, not, List, [], ◌∷◌, length, take, drop, map, Some, None, eqb, refl, sym, ap, subst, ◌∙◌, arith}
use Rattle.std.specs.List.{position, slice_split, onto_first, position_or_len, before_first, after_first}
use Rattle.std.proofs.lemmas.List.Splits.{slice_split_first}
use Rattle.std.proofs.lemmas.Bool.{eqb-true, eqb-false}
use Rattle.std.proofs.lemmas.List.{take_all}
use Rattle.geda_defs.specs.Lines.{is_line_feed}
use Rattle.geda_text.specs.Lines.{without_empty_end, without_crs, lines_of}
use Rattle.geda_text.proofs.Positions.{found, nowhere, one_piece}
use Rattle.geda_text.specs.steps.Pieces.{HasNoLineFeed}

-- there is always a first part
some_part : (p : ℕ → Bool) (bs : List ℕ) → (x : List ℕ) × (xs : List (List ℕ)) × (slice_split p bs ≡ x ∷ xs)
some_part p [] = ([], [], refl)
some_part p (b ∷ bs) = go (p b) (some_part p bs)
  where
    go : (t : Bool) → (x : List ℕ) × (xs : List (List ℕ)) × (slice_split p bs ≡ x ∷ xs) → (x : List ℕ) × (xs : List (List ℕ)) × (cond t ([] ∷ slice_split p bs) (onto_first b (slice_split p bs)) ≡ x ∷ xs)
    go true r = ([], slice_split p bs, refl)
    go false r = (b ∷ r.0, r.1, ap (onto_first b) r.2)

-- a line feed ends a line
lines_of-cut : (bs : List ℕ) → position_or_len is_line_feed bs < length bs → lines_of bs ≡ without_crs (before_first is_line_feed bs) ∷ lines_of (after_first is_line_feed bs)
unfolding lines_of
lines_of-cut bs h =
    let more = some_part is_line_feed (after_first is_line_feed bs) in
    ap (λ (xs : List (List ℕ)). map without_crs (without_empty_end xs)) (slice_split_first is_line_feed bs 0 h ∙ ap (λ (xs : List (List ℕ)). before_first is_line_feed bs ∷ xs) more.2)
    ∙ ap (λ (xs : List (List ℕ)). without_crs (before_first is_line_feed bs) ∷ map without_crs (without_empty_end xs)) (sym more.2)

pub lines_of-some : (bs : List ℕ) (end : ℕ) → position is_line_feed bs ≡ Some end → lines_of bs ≡ without_crs (take end bs) ∷ lines_of (drop (end + 1) bs)
lines_of-some bs end e =
    let at = found is_line_feed bs end e in
    subst (λ (n : ℕ). lines_of bs ≡ without_crs (take n bs) ∷ lines_of (drop (n + 1) bs)) at.first (lines_of-cut bs at.within)

-- with no line feed all is one line
pub lines_of-none : (bs : List ℕ) → 0 < length bs → position is_line_feed bs ≡ None → lines_of bs ≡ without_crs bs ∷ lines_of []
unfolding lines_of
lines_of-none [] h e = absurd (omega arith)
lines_of-none (b ∷ bs) h e = ap (λ (xs : List (List ℕ)). map without_crs (without_empty_end xs)) (one_piece is_line_feed (b ∷ bs) e)

pub no_lines : (bs : List ℕ) → true ≡ eqb (length bs) 0 → lines_of bs ≡ []
unfolding lines_of
no_lines [] e = refl
no_lines (b ∷ bs) e = absurd (omega (arith, eqb-true _ _ (sym e)))

one_more : (n b : ℕ) (bs : List ℕ) → b ≢ 10 → HasNoLineFeed (take n bs) → HasNoLineFeed (take (1 + n) (b ∷ bs))
one_more n b bs other more =
    let next : suc n ≡ 1 + n = omega arith in
    subst (λ (m : ℕ). HasNoLineFeed (take m (b ∷ bs))) next (other, more)

-- no line feed stands before the first one
before_one : (bs : List ℕ) → HasNoLineFeed (take (position_or_len is_line_feed bs) bs)
before_one [] = tt
before_one (b ∷ bs) = go (is_line_feed b) refl (before_one bs)
  where
    go : (t : Bool) → is_line_feed b ≡ t → HasNoLineFeed (take (position_or_len is_line_feed bs) bs) → HasNoLineFeed (take (cond (not t) (1 + position_or_len is_line_feed bs) 0) (b ∷ bs))
    go true e more = tt
    go false e more = one_more (position_or_len is_line_feed bs) b bs (eqb-false b 10 e) more

pub one_line-some : (bs : List ℕ) (end : ℕ) → position is_line_feed bs ≡ Some end → HasNoLineFeed (take end bs)
one_line-some bs end e = subst (λ (n : ℕ). HasNoLineFeed (take n bs)) (found is_line_feed bs end e).first (before_one bs)

pub one_line-none : (bs : List ℕ) → position is_line_feed bs ≡ None → HasNoLineFeed bs
one_line-none bs e = subst HasNoLineFeed (take_all (position_or_len is_line_feed bs) bs (nowhere is_line_feed bs e)) (before_one bs)
