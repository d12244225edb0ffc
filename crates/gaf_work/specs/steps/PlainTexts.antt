-- The texts that the work writes: ASCII in one line, without control bytes to CR.
use Rattle.std.specs.Prelude.{◌≡◌, ℕ, Bool, true, ◌&&◌, List, nat_lt}
use Rattle.std.specs.List.{list_all}

-- an ASCII byte above CR
abbrev pub is_plain_byte : ℕ → Bool
is_plain_byte b = nat_lt 13 b && nat_lt b 128

-- a text of such bytes
abbrev pub IsPlain : List ℕ → Type 0
IsPlain text = list_all is_plain_byte text ≡ true
