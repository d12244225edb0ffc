-- Numbers of a few digits (own).
use Rattle.std.specs.Prelude.{ℕ, Bool, ◌&&◌, nat_le, List, length}
use Rattle.std.specs.List.{list_all}
use Rattle.std.specs.Char.{is_ascii_digit}

-- 1 to 10 digits
abbrev pub is_short_number : List ℕ → Bool
is_short_number bytes =
    nat_le 1 (length bytes) && (nat_le (length bytes) 10 && list_all is_ascii_digit bytes)
