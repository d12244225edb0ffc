-- The value of digits.
use Rattle.std.proofs.Common.{◌≡◌, ℕ, ◌+◌, ◌-◌, ◌*◌, ◌^◌, ◌<◌, ◌≤◌, Bool, true, false, ◌&&◌, nat_le, List, length, get_or, take, refl, arith, add-one}
use Rattle.std.specs.List.{list_all}
use Rattle.std.specs.Char.{is_ascii_digit}
use Rattle.std.specs.Int.{IsInRange}
use Rattle.web_heads.specs.Digits.{is_short_number}
use Rattle.std.specs.Str.Parse.{digits_value}
use Rattle.std.proofs.Math.Nat.{pow-le-pow_right, pow-suc}
use Rattle.std.proofs.lemmas.Bool.Decides.{nat_tests}
use Rattle.std.proofs.lemmas.Str.{digit_value_digit}
use Rattle.std.proofs.lemmas.List.Folds.{list_all_at}
use Rattle.std.proofs.lemmas.Int.Digits.{digits_value_more}

in_range : (b : ℕ) → is_ascii_digit b ≡ true → IsInRange 48 57 b
in_range b h = grind (arith, nat_tests)

pub digit_at : (ds : List ℕ) (i : ℕ) → i < length ds → list_all is_ascii_digit ds ≡ true → IsInRange 48 57 (get_or ds i 0)
digit_at ds i h e = in_range (get_or ds i 0) (go (is_ascii_digit (get_or ds i 0)) refl)
  where
    go : (b : Bool) → is_ascii_digit (get_or ds i 0) ≡ b → is_ascii_digit (get_or ds i 0) ≡ true
    go true k = k
    go false k = absurd (let f = list_all_at is_ascii_digit ds i 0 h k in cc)

pub record DigitAt (ds : List ℕ) (i value : ℕ) : Type 0 where
  pub low : 48 ≤ get_or ds i 0
  pub high : get_or ds i 0 ≤ 57
  pub small : value < 1000000000
  pub next : value * 10 + (get_or ds i 0 - 48) ≡ digits_value 10 (take (i + 1) ds)
  pub bound : value * 10 + (get_or ds i 0 - 48) < 10 ^ (i + 1)

pub one_digit : (ds : List ℕ) (i value : ℕ) → i < length ds → length ds ≤ 10 → list_all is_ascii_digit ds ≡ true → value ≡ digits_value 10 (take i ds) → value < 10 ^ i → DigitAt ds i value
one_digit ds i value h short all is below =
    let d = digit_at ds i h all in
    let v = digit_value_digit (get_or ds i 0) d in
    let le : i ≤ 9 = omega arith in
    let power : 10 ^ i ≤ 10 ^ 9 = pow-le-pow_right {n = 10} (omega arith) le in
    let more = digits_value_more 10 ds i h in
    let up : 10 ^ (i + 1) ≡ 10 ^ i * 10 = rw add-one (pow-suc 10 i) in
    record {
      low = d.0;
      high = d.1;
      small = omega arith;
      next = omega arith;
      bound = omega arith;
    }

-- so many digits are few enough
pub is_short : (bytes : List ℕ) → is_short_number bytes ≡ true → length bytes ≤ 10
is_short bytes h = grind (arith, nat_tests)

-- and digits they are
pub has_digits : (bytes : List ℕ) → is_short_number bytes ≡ true → list_all is_ascii_digit bytes ≡ true
has_digits bytes h = last (nat_le 1 (length bytes)) (nat_le (length bytes) 10) (list_all is_ascii_digit bytes) h
  where
    last : (a b c : Bool) → (a && (b && c)) ≡ true → c ≡ true
    last true true c e = e
    last true false c e = absurd (let f = e in cc)
    last false b c e = absurd (let f = e in cc)
