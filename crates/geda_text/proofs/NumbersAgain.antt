-- A number that was written is read again.
use Rattle.std.proofs.Common.{sym, ◌≡◌, ℕ, zero, suc, ◌+◌, ◌-◌, ◌<◌, true, false, eqb, List, ◌++◌, length, get_or, replicate, Some, refl, ap, ◌∙◌, arith, ℤ, pos, negsuc, rules}
use Rattle.std.specs.List.{list_all}
use Rattle.std.specs.Char.{is_ascii_digit}
use Rattle.std.specs.Fmt.{decimal, signed_decimal}
use Rattle.std.specs.Prelude.{unsigned_abs}
use Rattle.std.specs.Str.Parse.{digits_value}
use Rattle.std.proofs.lemmas.List.{length-append, length-replicate}
use Rattle.std.proofs.lemmas.Fmt.{length-decimal-le, decimal_nonempty, digits_decimal, digits_value-decimal}
use Rattle.std.proofs.lemmas.Str.Parse.{IsNumeralModel, numerals_by_value}
use Rattle.std.proofs.lemmas.Bool.{lt-ltb}
use Rattle.std.proofs.lemmas.Bool.Decides.{nat_tests}
use Rattle.geda_text.specs.Lines.{digits_of, whole_of}
use Rattle.geda_text.proofs.Digits.{digit_at}

-- the reader takes digits by their value
own : IsNumeralModel (λ ds. list_all is_ascii_digit ds ≡ true) (digits_value 10)
own = numerals_by_value _ (search rules)

-- digits
digits_again : (n : ℕ) → n < 1000000000 → digits_of (decimal n) ≡ Some n
unfolding digits_of
digits_again n h =
    let all : list_all is_ascii_digit (decimal n) ≡ true = digits_decimal own n (omega arith) in
    let some = lt-ltb 0 (length (decimal n)) (decimal_nonempty n (omega arith)) in
    let short = lt-ltb (length (decimal n)) 10 (omega (arith, length-decimal-le 9 n (omega arith) (omega arith) (omega arith))) in
    rw (some, short, all) (ap Some (digits_value-decimal own n (omega arith)))

-- digits do not begin with a minus sign
no_minus : (ds : List ℕ) → 0 < length ds → list_all is_ascii_digit ds ≡ true → eqb (get_or ds 0 0) 45 ≡ false
no_minus ds h all = let d = digit_at ds 0 h all in grind (arith, nat_tests)

-- nor does a decimal
no_minus_decimal : (n : ℕ) → n < 1000000000 → eqb (get_or (decimal n) 0 0) 45 ≡ false
no_minus_decimal n h = no_minus (decimal n) (decimal_nonempty n (omega arith)) (digits_decimal own n (omega arith))

-- a whole number
pub whole_again : (z : ℤ) → unsigned_abs z < 1000000000 → whole_of (signed_decimal z) ≡ Some z
unfolding whole_of
whole_again (pos n) h = rw (no_minus_decimal n h, digits_again n h) refl
whole_again (negsuc n) h = rw (digits_again (suc n) h) refl

-- zeros in front of digits are digits
zeros_are_digits : (k : ℕ) (ds : List ℕ) → list_all is_ascii_digit ds ≡ true → list_all is_ascii_digit (replicate k 48 ++ ds) ≡ true
zeros_are_digits zero ds h = h
zeros_are_digits (suc k) ds h = zeros_are_digits k ds h

-- and do not change the value
zeros_count_nothing : (k : ℕ) (ds : List ℕ) → digits_value 10 (replicate k 48 ++ ds) ≡ digits_value 10 ds
zeros_count_nothing zero ds = refl
zeros_count_nothing (suc k) ds = zeros_count_nothing k ds

-- a date of eight digits
pub record IsDate (n : ℕ) (word : List ℕ) : Type 0 where
  pub eight : length word ≡ 8
  pub digits : list_all is_ascii_digit word ≡ true
  pub value : n ≡ digits_value 10 word

pub date_again : (n : ℕ) → n < 100000000 → IsDate n (replicate (8 - length (decimal n)) 48 ++ decimal n)
date_again n h =
    let k = 8 - length (decimal n) in
    let short = length-decimal-le 8 n (omega arith) (omega arith) (omega arith) in
    let count : length (replicate k 48 ++ decimal n) ≡ k + length (decimal n) = length-append (replicate k 48) (decimal n) ∙ ap (λ (m : ℕ). m + length (decimal n)) (length-replicate k 48) in
    record {
      eight = count ∙ omega (arith, short);
      digits = zeros_are_digits k (decimal n) (digits_decimal own n (omega arith));
      value = sym (zeros_count_nothing k (decimal n) ∙ digits_value-decimal own n (omega arith));
    }
