-- Texts that print in a word as they are.
use Rattle.std.proofs.Common.{◌≡◌, ℕ, List, [], ◌∷◌, true, refl, arith}
use Rattle.std.specs.Prelude.{nat_lt}
use Rattle.std.specs.List.{list_all}
use Rattle.std.proofs.lemmas.Bool.{and_parts}
use Rattle.std.proofs.lemmas.Bool.Decides.{nat_tests}
use Rattle.printed_texts.specs.PrintedTexts.{word, word_byte}

stays : (b : ℕ) → nat_lt 32 b ≡ true → word_byte b ≡ b
stays b above = grind (arith, nat_tests)

pub word_of_stays : (text : List ℕ) → list_all (λ b. nat_lt 32 b) text ≡ true → word text ≡ text
word_of_stays [] above = refl
word_of_stays (b ∷ bs) above =
    let parts = and_parts (nat_lt 32 b) (list_all (λ b. nat_lt 32 b) bs) above in
    rw (stays b parts.0, word_of_stays bs parts.1) refl
