-- Numbers of 1 to 4 digits.
use Rattle.std.proofs.Common.{◌≡◌, ◌<◌, ◌≤◌, ◌==◌, if◌then◌else◌, ℕ, Bool, true, false, ◌&&◌, nat_lt, List, length, Option, Some, None, refl, arith, rules}
use Rattle.std.specs.Char.{is_ascii_digit}
use Rattle.std.specs.Fmt.{decimal}
use Rattle.std.specs.List.{list_all}
use Rattle.std.specs.Option.{unwrap_or}
use Rattle.std.specs.Str.Parse.{digits_value}
use Rattle.std.proofs.lemmas.Bool.Decides.{nat_tests}
use Rattle.std.proofs.lemmas.Bool.{and_parts}
use Rattle.std.proofs.lemmas.Fmt.{decimal_nonempty, digits_decimal, digits_value-decimal, length-decimal-le}
use Rattle.std.proofs.lemmas.Str.Parse.{IsNumeralModel, digits_value_short, numerals_by_value}
use Rattle.attr_rules.specs.Slots.{exceeds, short_number, slot_count, slot_number}

pub own : IsNumeralModel (λ ds. list_all is_ascii_digit ds ≡ true) (digits_value 10)
own = numerals_by_value _ (search rules)

-- what 1 to 4 digits are
abbrev is_short : List ℕ → Bool
is_short ds = nat_lt 0 (length ds) && (nat_lt (length ds) 5 && list_all is_ascii_digit ds)

short_below : (ds : List ℕ) → is_short ds ≡ true → digits_value 10 ds < 10000
short_below ds h =
    let inner = (and_parts (nat_lt 0 (length ds)) (nat_lt (length ds) 5 && list_all is_ascii_digit ds) h).1 in
    let both = and_parts (nat_lt (length ds) 5) (list_all is_ascii_digit ds) inner in
    let few : length ds ≤ 4 = grind (arith, nat_tests) in
    digits_value_short own ds 4 both.1 few

-- their value is below 10,000
pub number_below : (ds : List ℕ) → unwrap_or (short_number ds) 0 < 10000
unfolding short_number
number_below ds = by (is_short ds) refl
  where
    by : (b : Bool) → is_short ds ≡ b → unwrap_or (if is_short ds then Some (digits_value 10 ds) else None) 0 < 10000
    by true e = rw e (short_below ds e)
    by false e = rw e (omega arith)

-- so is a count of slots
pub count_below : (numslots : Option (List ℕ)) → unwrap_or (slot_count numslots) 0 < 10000
count_below None = omega arith
count_below (Some ds) = number_below ds

-- a number below 10,000 is written in 1 to 4 digits
pub short_decimal : (k : ℕ) → k < 10000 → short_number (decimal k) ≡ Some k
unfolding short_number
short_decimal k small =
    let some : nat_lt 0 (length (decimal k)) ≡ true = let h = decimal_nonempty k (omega (arith, small)) in grind (arith, nat_tests) in
    let few : nat_lt (length (decimal k)) 5 ≡ true = let h = length-decimal-le 4 k (omega arith) small (omega (arith, small)) in grind (arith, nat_tests) in
    rw (some, few, digits_decimal own k (omega (arith, small)), digits_value-decimal own k (omega (arith, small))) refl

-- a slot from 1 to the count of slots is one
pub slot_is : (text : List ℕ) (numslots : Option (List ℕ)) (n k : ℕ) → short_number text ≡ Some k → slot_count numslots ≡ Some n
    → 0 < k → k ≤ n → slot_number text numslots ≡ Some k
slot_is text numslots n k number count from most =
    let some : (k == 0) ≡ false = grind (arith, nat_tests) in
    let inside : exceeds k (Some n) ≡ false = grind (arith, nat_tests) in
    rw (number, count, some, inside) refl
