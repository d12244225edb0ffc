-- Texts without the `?` at their end.
use Rattle.std.proofs.Common.{◌≡◌, ℕ, zero, suc, ◌-◌, ◌==◌, Bool, true, false, not, List, [], ◌∷◌, length, take, slice_index, refl, ap, arith}
use Rattle.std.proofs.lemmas.Bool.{and_parts}
use Rattle.std.proofs.lemmas.Bool.Decides.{nat_tests}
use Rattle.refdes_renum.specs.Numbers.{ends_in_mark, stem_of, unless_last_mark}

-- a `?` at the end changes nothing
pub stem_take : (bs : List ℕ) (n : ℕ) → suc n ≡ length bs → (slice_index bs n == 63) ≡ true → stem_of (take n bs) ≡ stem_of bs
stem_take [] n e h = absurd (omega (arith, e))
stem_take (b ∷ []) zero e h = rw h refl
stem_take (b ∷ []) (suc n) e h = absurd (omega (arith, e))
stem_take (b ∷ c ∷ cs) zero e h = absurd (omega (arith, e))
stem_take (b ∷ c ∷ cs) (suc n) e h = ap (unless_last_mark b) (stem_take (c ∷ cs) n (omega (arith, e)) h)

-- a text with another end is its own stem
pub stem_same : (bs : List ℕ) (n : ℕ) → suc n ≡ length bs → (slice_index bs n == 63) ≡ false → stem_of bs ≡ bs
stem_same [] n e h = absurd (omega (arith, e))
stem_same (b ∷ []) zero e h = rw h refl
stem_same (b ∷ []) (suc n) e h = absurd (omega (arith, e))
stem_same (b ∷ c ∷ cs) zero e h = absurd (omega (arith, e))
stem_same (b ∷ c ∷ cs) (suc n) e h = ap (unless_last_mark b) (stem_same (c ∷ cs) n (omega (arith, e)) h)

-- so it may be left out
pub stem_shorter : (bs : List ℕ) → ends_in_mark bs ≡ true → stem_of (take (length bs - 1) bs) ≡ stem_of bs
stem_shorter [] h = refl
stem_shorter (b ∷ bs) h =
    let parts = and_parts (not (length (b ∷ bs) == 0)) (slice_index (b ∷ bs) (length (b ∷ bs) - 1) == 63) h in
    stem_take (b ∷ bs) (length (b ∷ bs) - 1) (omega arith) parts.1

-- and with another end, nothing is
pub stem_ends : (bs : List ℕ) → ends_in_mark bs ≡ false → stem_of bs ≡ bs
stem_ends [] h = refl
stem_ends (b ∷ bs) h = go (slice_index (b ∷ bs) (length (b ∷ bs) - 1) == 63) refl
  where
    go : (t : Bool) → (slice_index (b ∷ bs) (length (b ∷ bs) - 1) == 63) ≡ t → stem_of (b ∷ bs) ≡ b ∷ bs
    go false e = stem_same (b ∷ bs) (length (b ∷ bs) - 1) (omega arith) e
    go true e =
        let some : (length (b ∷ bs) == 0) ≡ false = grind (arith, nat_tests) in
        absurd (let f : true ≡ false = rw (some, e) at h in cc)
