-- Where the first byte of a kind is found.
use Rattle.std.proofs.Common.{◌≡◌, ℕ, ◌<◌, ◌≤◌, Bool, true, false, cond, List, [], ◌∷◌, length, get_or, Option, Some, None, ltb, refl, arith}
use Rattle.std.specs.List.{position, slice_split, position_or_len}
use Rattle.std.proofs.lemmas.List.Sums.{fails_before_first, position_or_len_is}
use Rattle.std.proofs.lemmas.List.Splits.{slice_split_none}
use Rattle.std.proofs.lemmas.Bool.{le-ltb, lt-ltb, ltb-true, ltb-false}
use Rattle.memchr.specs.Find.{IsFirstByte, Passes}

-- which way a position was found
found_at : (b : Bool) (i place : ℕ) → cond b (Some i) None ≡ Some place → (b ≡ true) × (i ≡ place)
found_at true i place e = (refl, cc)
found_at false i place e = absurd cc

not_found : (b : Bool) (i : ℕ) → cond b (Some i) None ≡ None → b ≡ false
not_found true i e = absurd cc
not_found false i e = refl

-- a place where one was found
pub record IsFoundAt (p : ℕ → Bool) (bs : List ℕ) (place : ℕ) : Type 0 where
  pub within : position_or_len p bs < length bs
  pub first : position_or_len p bs ≡ place

pub found : (p : ℕ → Bool) (bs : List ℕ) (place : ℕ) → position p bs ≡ Some place → IsFoundAt p bs place
found p bs place e =
    let at = found_at (ltb (position_or_len p bs) (length bs)) (position_or_len p bs) place e in
    record { within = ltb-true _ _ at.0; first = at.1 }

pub nowhere : (p : ℕ → Bool) (bs : List ℕ) → position p bs ≡ None → length bs ≤ position_or_len p bs
nowhere p bs e = ltb-false _ _ (not_found (ltb (position_or_len p bs) (length bs)) (position_or_len p bs) e)

-- where none is found, all is one piece
pub one_piece : (p : ℕ → Bool) (bs : List ℕ) → position p bs ≡ None → slice_split p bs ≡ bs ∷ []
one_piece p bs e =
    let past = nowhere p bs e in
    slice_split_none p bs (λ k d lt. fails_before_first p bs k d (omega arith))

-- what does not pass fails
fails : (p : ℕ → Bool) (bs : List ℕ) (k : ℕ) → ¬ (Passes p bs k) → p (get_or bs k 0) ≡ false
fails p bs k unlike = go (p (get_or bs k 0)) refl
  where
    go : (b : Bool) → p (get_or bs k 0) ≡ b → p (get_or bs k 0) ≡ false
    go true e = absurd (unlike e)
    go false e = e

-- what passes first is at the position
pub first_position : (p : ℕ → Bool) (bs : List ℕ) (r : Option ℕ) → IsFirstByte p bs r → r ≡ position p bs
first_position p bs None nowhere_at =
    let past = position_or_len_is p bs (length bs) 0 (omega arith) (λ k lt. fails p bs k (nowhere_at k (omega arith) lt)) (λ lt. absurd (omega (arith, lt))) in
    rw (past, le-ltb (length bs) (length bs) (omega arith)) refl
first_position p bs (Some k) at =
    let first = position_or_len_is p bs k 0 (omega (arith, at.0.high)) (λ i lt. fails p bs i (at.0.before i (omega arith) lt)) (λ lt. at.1) in
    rw (first, lt-ltb k (length bs) at.0.high) refl
