-- Numbers of 64 bits, as the gateway spells them: strings of digits (proto3 JSON mapping, int64).
use Rattle.std.specs.Prelude.{ℕ, ◌+◌, ◌*◌, ◌-◌, ◌^◌, ◌&&◌, nat_le, nat_lt, Bool, if◌then◌else◌, List, [], ◌∷◌, Option, Some, None}

-- a digit
abbrev pub is_decimal : ℕ → Bool
is_decimal d = nat_le 48 d && nat_le d 57

-- the number of further digits behind a value, which has at most 18 digits before the last one
unfoldable pub digits_from : ℕ → List ℕ → Option ℕ
digits_from value [] = Some value
digits_from value (d ∷ ds) =
    if is_decimal d && nat_lt value (10 ^ 18) then digits_from (value * 10 + (d - 48)) ds else None

-- the number that a string is
abbrev pub string_number : List ℕ → Option ℕ
string_number [] = None
string_number (d ∷ ds) = digits_from 0 (d ∷ ds)
