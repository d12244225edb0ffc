-- The first field of a line that begins with one byte and a space.
use Rattle.std.proofs.Common.{◌≡◌, ℕ, ◌<◌, ◌≤◌, false, List, [], ◌∷◌, length, take, drop, get_or, refl, arith}
use Rattle.std.specs.List.{position_or_len}
use Rattle.std.proofs.lemmas.Bool.{lt-ltb}
use Rattle.std.proofs.lemmas.Bool.Decides.{nat_tests}
use Rattle.geda_text.specs.Lines.{fields_of, is_blank}
use Rattle.geda_text.proofs.CuttingFields.{fields_of-some}

no_blank : (b : ℕ) → 32 < b → is_blank b ≡ false
no_blank b h = grind (arith, nat_tests)

blank_second : (b c : ℕ) (bs : List ℕ) → 32 < b → c ≡ 32 → position_or_len is_blank (b ∷ c ∷ bs) ≡ 1
blank_second b c bs h e = rw (no_blank b h, e) refl

pub letter_first : (line : List ℕ) → 2 ≤ length line → 32 < get_or line 0 0 → get_or line 1 0 ≡ 32 → fields_of line ≡ take 1 line ∷ fields_of (drop 2 line)
letter_first [] many h e = absurd (omega (arith, many))
letter_first (b ∷ []) many h e = absurd (omega (arith, many))
letter_first (b ∷ c ∷ bs) many h e =
    fields_of-some (b ∷ c ∷ bs) 1 (omega arith) (no_blank b h) (rw (blank_second b c bs h e, lt-ltb 1 (length (b ∷ c ∷ bs)) (omega arith)) refl)
