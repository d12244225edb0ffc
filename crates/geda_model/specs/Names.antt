-- Names, words, lines and texts, as lists of bytes (own).
use Rattle.std.specs.Prelude.{◌≡◌, ℕ, ◌≤◌, ◌<◌, List, length, Bool, true, not, ◌||◌, ◌&&◌, nat_lt, nat_le, ◌==◌, ◌≢◌, slice_index, All}
use Rattle.std.specs.List.{list_all}
use Rattle.std.specs.Str.{is_utf8}
use Rattle.geda_model.specs.Limits.{most_name_bytes, most_word_bytes}

-- a letter, a digit, `_`, `-`, `+` or `.`
abbrev pub is_name_byte : ℕ → Bool
is_name_byte b =
    (nat_le 48 b && nat_le b 57) || ((nat_le 65 b && nat_le b 90)
    || ((nat_le 97 b && nat_le b 122)
    || ((b == 95) || ((b == 45) || ((b == 43) || (b == 46))))))

-- 1 to 100 letters, digits, `_`, `-`, `+` and `.`, the first of them no `.`
pub record IsName (bytes : List ℕ) : Type 0 where
  pub filled : 1 ≤ length bytes
  pub short : length bytes ≤ most_name_bytes
  pub first : slice_index bytes 0 ≢ 46
  pub name_bytes : list_all is_name_byte bytes ≡ true

-- the same of a name, as a test
abbrev pub is_name : List ℕ → Bool
is_name bytes =
    nat_le 1 (length bytes) && (nat_le (length bytes) most_name_bytes
    && (not (slice_index bytes 0 == 46) && list_all is_name_byte bytes))

-- any byte but LF
abbrev pub IsLineByte : ℕ → Type 0
IsLineByte b = b ≢ 10

-- UTF-8 without LF
pub record IsLine (bytes : List ℕ) : Type 0 where
  pub text : is_utf8 bytes ≡ true
  pub line_bytes : All IsLineByte bytes

-- no space, tab or control byte: control bytes are 0 to 31 and 127
abbrev pub IsWordByte : ℕ → Type 0
IsWordByte b = (32 < b) × (b ≢ 127)

-- UTF-8 of at most 200 bytes without space, tab and control bytes
pub record IsWord (bytes : List ℕ) : Type 0 where
  pub text : is_utf8 bytes ≡ true
  pub short : length bytes ≤ most_word_bytes
  pub word_bytes : All IsWordByte bytes

-- the same of a byte, as a test
abbrev pub is_word_byte : ℕ → Bool
is_word_byte b = nat_lt 32 b && not (b == 127)

-- the same of a word, as a test
abbrev pub is_word : List ℕ → Bool
is_word bytes =
    is_utf8 bytes && (nat_le (length bytes) most_word_bytes && list_all is_word_byte bytes)
