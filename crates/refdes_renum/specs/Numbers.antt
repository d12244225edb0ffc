-- Texts under numbers (own).
use Rattle.std.specs.Prelude.{ℕ, zero, suc, ◌+◌, ◌-◌, ◌==◌, ◌&&◌, not, if◌then◌else◌, Bool, List, [], ◌∷◌, ◌++◌, length, slice_index}
use Rattle.std.specs.List.{list_any}
use Rattle.std.specs.Fmt.{decimal}
use Rattle.std.specs.Str.{bytes_eq}

-- the text ends in `?`
abbrev pub ends_in_mark : List ℕ → Bool
ends_in_mark text = not (length text == 0) && (slice_index text (length text - 1) == 63)

-- a byte before others; a `?` is left out where nothing stands behind it
abbrev pub unless_last_mark : ℕ → List ℕ → List ℕ
unless_last_mark b [] = if b == 63 then [] else b ∷ []
unless_last_mark b (c ∷ cs) = b ∷ c ∷ cs

-- a text without all `?` at its end
abbrev pub stem_of : List ℕ → List ℕ
stem_of [] = []
stem_of (b ∷ bs) = unless_last_mark b (stem_of bs)

-- a text followed by a number
abbrev pub stem_with_number : List ℕ → ℕ → List ℕ
stem_with_number stem n = stem ++ decimal n

-- the text with this number is in use
abbrev pub is_taken : List (List ℕ) → List ℕ → ℕ → Bool
is_taken used stem n = list_any (bytes_eq (stem_with_number stem n)) used

-- the first number from one on that is not taken, of so many; the one after them, if all are
abbrev pub first_free : (ℕ → Bool) → ℕ → ℕ → ℕ
first_free taken n zero = n
first_free taken n (suc more) = if taken n then first_free taken (n + 1) more else n

-- the greatest number of 64 bits
abbrev pub greatest_u64 : ℕ
greatest_u64 = 18446744073709551615

-- the least number from 1 of which the text is not in use
unfoldable pub least_free : List (List ℕ) → List ℕ → ℕ
least_free used stem = first_free (is_taken used stem) 1 (greatest_u64 - 1)
