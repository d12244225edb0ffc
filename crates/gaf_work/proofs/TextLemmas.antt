-- The names and the texts that the work writes.
use Rattle.std.proofs.Common.{◌≡◌, ℕ, ◌<◌, ◌^◌, true, false, List, [], ◌∷◌, ◌++◌, refl, arith, rules, codes, eqb}
use Rattle.std.specs.List.{list_all}
use Rattle.std.proofs.lemmas.List.Folds.{list_all-append}
use Rattle.std.specs.Char.{is_ascii_digit}
use Rattle.std.specs.Fmt.{decimal}
use Rattle.std.specs.Str.{is_utf8, IsAscii}
use Rattle.std.specs.Str.Parse.{digits_value}
use Rattle.std.proofs.lemmas.Fmt.{digits_decimal}
use Rattle.std.proofs.lemmas.Str.Parse.{IsNumeralModel, numerals_by_value}
use Rattle.std.proofs.lemmas.Str.{IsUtf8-from_ascii, is_utf8-from_IsUtf8}
use Rattle.std.proofs.lemmas.Str.Ascii.{IsAscii-nil, IsAscii-cons}
use Rattle.std.proofs.lemmas.Bool.Decides.{nat_tests}
use Rattle.std.proofs.lemmas.Bool.{and_parts}
use Rattle.geda_model.specs.Names.{IsName, IsWord}
use Rattle.geda_model.specs.Ranges.{IsContent, has_cr_end, line_feeds}
use Rattle.geda_model.proofs.WordTests.{IsWord-from_is_word}
use Rattle.gaf_work.specs.Opening.{sheet_name, symbol_name}
use Rattle.gaf_work.specs.steps.PlainTexts.{is_plain_byte, IsPlain}

-- the two names
pub sheet_name_is_name : IsName sheet_name
sheet_name_is_name = record { filled = omega arith; short = omega arith; first = λ e. absurd cc; name_bytes = refl }

pub symbol_name_is_name : IsName symbol_name
symbol_name_is_name = record { filled = omega arith; short = omega arith; first = λ e. absurd cc; name_bytes = refl }

head_plain : (b : ℕ) (bs : List ℕ) → IsPlain (b ∷ bs) → is_plain_byte b ≡ true
head_plain b bs h = (and_parts (is_plain_byte b) (list_all is_plain_byte bs) h).0

tail_plain : (b : ℕ) (bs : List ℕ) → IsPlain (b ∷ bs) → IsPlain bs
tail_plain b bs h = (and_parts (is_plain_byte b) (list_all is_plain_byte bs) h).1

no_cr : (bs : List ℕ) → IsPlain bs → has_cr_end bs ≡ false
no_cr [] h = refl
no_cr (b ∷ bs) h =
    let test = head_plain b bs h in
    let other : eqb b 13 ≡ false = grind (arith, nat_tests) in
    rw (other, no_cr bs (tail_plain b bs h)) refl

no_feeds : (bs : List ℕ) → IsPlain bs → line_feeds bs ≡ 0
no_feeds [] h = refl
no_feeds (b ∷ bs) h =
    let test = head_plain b bs h in
    let other : eqb b 10 ≡ false = grind (arith, nat_tests) in
    rw (other, no_feeds bs (tail_plain b bs h)) refl

low : (b : ℕ) → is_plain_byte b ≡ true → b < 128
low b h = grind (arith, nat_tests)

utf8 : (bs : List ℕ) → IsPlain bs → is_utf8 bs ≡ true
utf8 bs h = is_utf8-from_IsUtf8 bs (IsUtf8-from_ascii bs (ascii bs h))
  where
    ascii : (bs : List ℕ) → IsPlain bs → IsAscii bs
    ascii [] h = IsAscii-nil
    ascii (b ∷ bs) h = IsAscii-cons b bs (low b (head_plain b bs h)) (ascii bs (tail_plain b bs h))

-- the symbol's name, as a component has it
pub symbol_name_is_word : IsWord symbol_name
symbol_name_is_word = IsWord-from_is_word symbol_name (rw (utf8 symbol_name refl) refl)

-- a plain text is the content of a text
pub plain_is_content : (bs : List ℕ) → IsPlain bs → IsContent bs
plain_is_content bs h = record {
  text = utf8 bs h;
  lines = rw (no_feeds bs h) (omega arith);
  no_cr = no_cr bs h;
}

digit_plain : (b : ℕ) → is_ascii_digit b ≡ true → is_plain_byte b ≡ true
digit_plain b h = grind (arith, nat_tests)

digits_plain : (ds : List ℕ) → list_all is_ascii_digit ds ≡ true → IsPlain ds
digits_plain [] h = refl
digits_plain (d ∷ ds) h =
    let parts = and_parts (is_ascii_digit d) (list_all is_ascii_digit ds) h in
    rw (digit_plain d parts.0, digits_plain ds parts.1) refl

own : IsNumeralModel (λ ds. list_all is_ascii_digit ds ≡ true) (digits_value 10)
own = numerals_by_value _ (search rules)

-- so is the refdes of a part
pub refdes_is_content : (id : ℕ) → id < 2 ^ 64 → IsContent (codes "refdes=W" ++ decimal id)
refdes_is_content id h =
    let digits : IsPlain (decimal id) = digits_plain (decimal id) (digits_decimal own id h) in
    plain_is_content (codes "refdes=W" ++ decimal id) (rw (list_all-append is_plain_byte (codes "refdes=W") (decimal id), digits) refl)
