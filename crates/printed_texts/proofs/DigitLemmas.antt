-- Numbers print as they are.
use Rattle.std.proofs.Common.{◌≡◌, ℕ, ◌<◌, ◌^◌, true, List, [], ◌∷◌, refl, rules, arith}
use Rattle.std.specs.List.{list_all}
use Rattle.std.specs.Char.{is_ascii_digit}
use Rattle.std.specs.Fmt.{decimal}
use Rattle.std.specs.Str.Parse.{digits_value}
use Rattle.std.proofs.lemmas.Fmt.{digits_decimal}
use Rattle.std.proofs.lemmas.Str.Parse.{IsNumeralModel, numerals_by_value}
use Rattle.std.proofs.lemmas.Bool.Decides.{nat_tests}
use Rattle.std.proofs.lemmas.Bool.{and_parts}
use Rattle.printed_texts.specs.PrintedTexts.{word, word_byte}

own : IsNumeralModel (λ ds. list_all is_ascii_digit ds ≡ true) (digits_value 10)
own = numerals_by_value _ (search rules)

digit_again : (b : ℕ) → is_ascii_digit b ≡ true → word_byte b ≡ b
digit_again b h = grind (arith, nat_tests)

digits_again : (ds : List ℕ) → list_all is_ascii_digit ds ≡ true → word ds ≡ ds
digits_again [] h = refl
digits_again (d ∷ ds) h = rw (digit_again d ((and_parts (is_ascii_digit d) (list_all is_ascii_digit ds) h).0), digits_again ds ((and_parts (is_ascii_digit d) (list_all is_ascii_digit ds) h).1)) refl

-- a number prints as its digits
pub number_again : (n : ℕ) → n < 2 ^ 64 → word (decimal n) ≡ decimal n
number_again n h = digits_again (decimal n) (digits_decimal own n h)
