-- Words of digits, as the parser of numbers sees them.
use Rattle.std.proofs.Common.{◌≡◌, ℕ, ◌<◌, ◌≤◌, Bool, true, false, List, [], ◌∷◌, ◌&&◌, length, Result, Ok, Err, refl, subst, ap, ◌∙◌, ◌^◌, arith}
use Rattle.std.specs.Prelude.{if◌then◌else◌, nat_eq, nat_le, nat_lt, Some, None}
use Rattle.std.specs.List.{list_all}
use Rattle.std.specs.Char.{digit_value, is_ascii_digit}
use Rattle.std.specs.Int.{IsInRange}
use Rattle.std.specs.Str.Parse.{AllDigits, IsNumeral, ParsesUnsigned, digits_value, without_leading_plus}
use Rattle.std.proofs.lemmas.Bool.Decides.{nat_tests}
use Rattle.std.proofs.lemmas.Str.{digit_value_digit}
use Rattle.command_words.specs.Commands.{is_number, number_of}

in_range : (b : ℕ) → is_ascii_digit b ≡ true → IsInRange 48 57 b
in_range b h = grind (arith, nat_tests)

digit_below : (b : ℕ) → is_ascii_digit b ≡ true → digit_value b < 10
digit_below b h = let r = in_range b h in let v = digit_value_digit b r in omega (arith, r.1, v)

-- a word of digits has digits alone
all_digits : (word : List ℕ) → list_all is_ascii_digit word ≡ true → AllDigits 10 word
all_digits [] e = tt
all_digits (b ∷ bs) e = go (all_digits bs) (is_ascii_digit b) refl e
  where
    go : (list_all is_ascii_digit bs ≡ true → AllDigits 10 bs) → (d : Bool) → is_ascii_digit b ≡ d
        → (d && list_all is_ascii_digit bs) ≡ true → AllDigits 10 (b ∷ bs)
    go later true h rest = (digit_below b h, later rest)
    go later false h rest = absurd (let f : false ≡ true = rest in cc)

no_plus : (b : ℕ) (bs : List ℕ) → is_ascii_digit b ≡ true → without_leading_plus (b ∷ bs) ≡ b ∷ bs
no_plus b bs h = let r = in_range b h in let e : nat_eq b 43 ≡ false = grind (arith, nat_tests) in rw e refl

-- it is a numeral, and no sign stands first
pub record IsPlain (word : List ℕ) : Type 0 where
  pub numeral : IsNumeral 10 word
  pub same : without_leading_plus word ≡ word

pub plain : (word : List ℕ) → is_number word ≡ true → IsPlain word
plain [] e = absurd (let f : false ≡ true = e in cc)
plain (b ∷ bs) e = go (nat_lt 0 (length (b ∷ bs)) && nat_lt (length (b ∷ bs)) 11) (list_all is_ascii_digit (b ∷ bs)) refl e
  where
    first : (d : Bool) → is_ascii_digit b ≡ d → (d && list_all is_ascii_digit bs) ≡ true → is_ascii_digit b ≡ true
    first true h rest = h
    first false h rest = absurd (let f : false ≡ true = rest in cc)

    go : (s d : Bool) → list_all is_ascii_digit (b ∷ bs) ≡ d → (s && d) ≡ true → IsPlain (b ∷ bs)
    go true true h rest = record {
      numeral = (omega arith, all_digits (b ∷ bs) h);
      same = no_plus b bs (first (is_ascii_digit b) refl h);
    }
    go true false h rest = absurd (let f : false ≡ true = rest in cc)
    go false d h rest = absurd (let f : false ≡ true = rest in cc)

-- what the parser takes: digits that write a number below 2^32
abbrev pub IsTaken : List ℕ → Type 0
IsTaken word = IsNumeral 10 (without_leading_plus word) × (digits_value 10 (without_leading_plus word) < 2 ^ 32)

taken : (word : List ℕ) → IsPlain word → digits_value 10 word < 2 ^ 32 → IsTaken word
taken word p small = rw p.same (p.numeral, small)

-- of what it does not take there is no number
pub none_of : (most : ℕ) (word : List ℕ) → most < 2 ^ 32 → is_number word ≡ true → ¬ (IsTaken word) → None ≡ number_of most word
none_of most word small e refuses = go (nat_le (digits_value 10 word) most) refl
  where
    go : (b : Bool) → nat_le (digits_value 10 word) most ≡ b → None ≡ number_of most word
    go true h = absurd (refuses (taken word (plain word e) (let l : digits_value 10 word ≤ most = grind (arith, nat_tests) in omega arith)))
    go false h = rw (e, h) refl

-- what it takes is the number, unless that is too great
pub some_of : (most : ℕ) (word : List ℕ) (value : ℕ) → is_number word ≡ true → value ≡ digits_value 10 (without_leading_plus word)
    → (if nat_le value most then Some value else None) ≡ number_of most word
some_of most word value e is =
    let same : value ≡ digits_value 10 word = is ∙ ap (digits_value 10) (plain word e).same in
    rw (e, same) refl

-- what the parser answers says so
pub refused : {E : Type 0} (word : List ℕ) (r : Result ℕ E) (e : E) → ParsesUnsigned 32 10 word r → r ≡ Err e → ¬ (IsTaken word)
refused {E} word r e h is = subst (λ (x : Result ℕ E). ParsesUnsigned 32 10 word x) is h

pub read : {E : Type 0} (word : List ℕ) (r : Result ℕ E) (value : ℕ) → ParsesUnsigned 32 10 word r → r ≡ Ok value
    → value ≡ digits_value 10 (without_leading_plus word)
read {E} word r value h is = (subst (λ (x : Result ℕ E). ParsesUnsigned 32 10 word x) is h).1
