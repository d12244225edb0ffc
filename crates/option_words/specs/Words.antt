-- What the words after a command say: the value of its option, and its other words (own).
use Rattle.std.specs.Prelude.{ℕ, Bool, true, false, ◌==◌, if◌then◌else◌, List, [], ◌∷◌, ◌++◌}
use Rattle.std.specs.Prelude.{Option, Some, None}
use Rattle.std.specs.List.{list_any, before_first, after_first}
use Rattle.std.specs.Str.{bytes_eq}

-- what a word looks like: it begins with no hyphen; it begins with one hyphen alone; it is `--`; it
-- is `--NAME` or `--NAME=VALUE`, cut at the first `=`
pub data Look : Type 0 where
  plain : Look
  single : Look
  end : Look
  long : List ℕ → Option (List ℕ) → Look

-- the byte is `=`
abbrev pub is_equals : ℕ → Bool
is_equals b = b == 61

-- what stands behind the first `=`, if there is one
abbrev pub after_equals : List ℕ → Option (List ℕ)
after_equals text = if list_any is_equals text then Some (after_first is_equals text) else None

-- the look of a word, from what stands behind its two hyphens
abbrev pub after_two : List ℕ → Look
after_two [] = end
after_two (b ∷ rest) = long (before_first is_equals (b ∷ rest)) (after_equals (b ∷ rest))

-- the look of a word, from what stands behind its first hyphen
abbrev pub after_one : List ℕ → Look
after_one [] = single
after_one (b ∷ rest) = if b == 45 then after_two rest else single

-- the look of a word
abbrev pub look : List ℕ → Look
look [] = plain
look (b ∷ rest) = if b == 45 then after_one rest else plain

-- the value of the option, where it was given, and the other words
pub record Parts : Type 0 where
  pub value : Option (List ℕ)
  pub words : List (List ℕ)

-- one more word
abbrev pub with_word : List ℕ → Parts → Parts
with_word word parts = record parts { words = parts.words ++ word ∷ [] }

-- the value of the option, which has none yet: an option has one value
abbrev pub given : Option (List ℕ) → List ℕ → Parts → Option Parts
given None value parts = Some (record parts { value = Some value })
given (Some first) value parts = None

-- the same, of the option in some parts
abbrev pub with_value : List ℕ → Parts → Option Parts
with_value value parts = given parts.value value parts

-- the name is that of the command's option, if it has one
abbrev pub is_option : Option (List ℕ) → List ℕ → Bool
is_option None name = false
is_option (Some option) name = bytes_eq option name

-- what comes next, where the value was taken
abbrev pub value_given : (Parts → Option Parts) → Option Parts → Option Parts
value_given next None = None
value_given next (Some parts) = next parts

-- the option, with the value that is attached to it, or else the next word as its value
abbrev pub option_read : Option (List ℕ) → Parts → (Bool → Parts → Option Parts) → Option Parts
option_read None parts next = next true parts
option_read (Some value) parts next = value_given (next false) (with_value value parts)

-- one word, and then the others: `next true` reads them where the first of them is the option's
-- value
abbrev pub word_read : Option (List ℕ) → Look → List ℕ → List (List ℕ) → Parts
    → (Bool → Parts → Option Parts) → Option Parts
word_read option plain word rest parts next = next false (with_word word parts)
word_read option single word rest parts next = None
word_read option end word rest parts next = Some (record parts { words = parts.words ++ rest })
word_read option (long name value) word rest parts next =
    if is_option option name then option_read value parts next else None

-- the word as the option's value, and then the others
abbrev pub value_read : Look → List ℕ → Parts → (Bool → Parts → Option Parts) → Option Parts
value_read plain word parts next = value_given (next false) (with_value word parts)
value_read _ word parts next = None

-- the words from left to right, after those that gave `parts`; `waits` says that the option stood
-- last, and its value comes next
abbrev pub read : Option (List ℕ) → List (List ℕ) → Bool → Parts → Option Parts
read option [] false parts = Some parts
read option [] true parts = None
read option (word ∷ rest) false parts =
    word_read option (look word) word rest parts (read option rest)
read option (word ∷ rest) true parts = value_read (look word) word parts (read option rest)

-- what the words say, of a command with this option or with none
abbrev pub parts_of : Option (List ℕ) → List (List ℕ) → Option Parts
parts_of option words = read option words false (record { value = None; words = [] })
