-- Pins that print as they are.
use Rattle.std.proofs.Common.{◌≡◌, ◌++◌, ℕ, List, [], ◌∷◌, true, refl, arith}
use Rattle.std.specs.Prelude.{All, nat_lt}
use Rattle.std.specs.List.{list_all}
use Rattle.std.proofs.lemmas.Bool.{and_parts}
use Rattle.std.proofs.lemmas.Bool.Decides.{nat_tests}
use Rattle.std.proofs.lemmas.List.Elements.{All-nil, All-append, All-cons}
use Rattle.geda_model.specs.Names.{IsLineByte}
use Rattle.printed_texts.specs.PrintedTexts.{pin_words}
use Rattle.printed_texts.proofs.StayLemmas.{word_of_stays}

no_feed : (b : ℕ) → nat_lt 32 b ≡ true → IsLineByte b
no_feed b above = grind (arith, nat_tests)

no_feeds : (text : List ℕ) → list_all (λ b. nat_lt 32 b) text ≡ true → All IsLineByte text
no_feeds [] above = All-nil IsLineByte
no_feeds (b ∷ bs) above =
    let parts = and_parts (nat_lt 32 b) (list_all (λ b. nat_lt 32 b) bs) above in
    All-cons IsLineByte b bs (no_feed b parts.0) (no_feeds bs parts.1)

mark : IsLineByte 45
mark = grind (arith, nat_tests)

module _ (refdes number : List ℕ) (first : list_all (λ b. nat_lt 32 b) refdes ≡ true) (second : list_all (λ b. nat_lt 32 b) number ≡ true) where
  -- such a pin has no LF
  pub pin_line : All IsLineByte (refdes ++ 45 ∷ number)
  pin_line = All-append IsLineByte refdes (45 ∷ number) (no_feeds refdes first) (All-cons IsLineByte 45 number mark (no_feeds number second))

  -- and prints as it is
  pub pin_stays : refdes ++ 45 ∷ number ≡ pin_words refdes number
  pin_stays = rw (word_of_stays refdes first, word_of_stays number second) refl
