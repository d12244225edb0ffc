-- The sum of a row, in blanks behind it (own).
use Rattle.std.specs.Prelude.{◌≡◌, ◌≤◌, ◌-◌, ◌/◌, ◌%◌, ◌==◌, ◌++◌, ◌∷◌, [], ◌⊎◌, ℕ, true, List, length, take, drop, if◌then◌else◌}
use Rattle.std.specs.List.{list_all, slice_index}
use Rattle.geda_text.specs.Lines.{is_blank}
use Rattle.md5.specs.Md5.{md5}

-- the blank of the bit of this weight: a tab where it is set, else a space
unfoldable pub bit_blank : ℕ → ℕ → ℕ
bit_blank byte weight = if byte / weight % 2 == 1 then 9 else 32

-- the blanks of a byte, its highest bit first
abbrev pub byte_blanks : ℕ → List ℕ
byte_blanks byte =
    bit_blank byte 128 ∷ bit_blank byte 64 ∷ bit_blank byte 32 ∷ bit_blank byte 16
    ∷ bit_blank byte 8 ∷ bit_blank byte 4 ∷ bit_blank byte 2 ∷ bit_blank byte 1 ∷ []

-- the blanks of the first four bytes of a digest
abbrev pub digest_blanks : List ℕ → List ℕ
digest_blanks digest =
    byte_blanks (slice_index digest 0) ++ byte_blanks (slice_index digest 1)
    ++ byte_blanks (slice_index digest 2) ++ byte_blanks (slice_index digest 3)

-- the sum of a row: 32 blanks
unfoldable pub sum_of : List ℕ → List ℕ
sum_of row = digest_blanks (md5 row)

-- the row and its sum
abbrev pub summed : List ℕ → List ℕ
summed row = row ++ sum_of row

-- what stands before the last 32 bytes, and these
abbrev pub front : List ℕ → List ℕ
front text = take (length text - 32) text

abbrev pub back : List ℕ → List ℕ
back text = drop (length text - 32) text

-- the last 32 bytes are blanks
pub record EndsInBlanks (text : List ℕ) : Type 0 where
  pub long : 32 ≤ length text
  pub blank : list_all is_blank (back text) ≡ true

-- the row of a text: what stands before its sum, or all of it where it ends in no 32 blanks, as the
-- rows of older programs do
abbrev pub IsRowPart : List ℕ → List ℕ → Type 0
IsRowPart text row =
    (EndsInBlanks text × (back text ≡ sum_of (front text)) × (row ≡ front text))
    ⊎ (¬ (EndsInBlanks text) × (row ≡ text))
