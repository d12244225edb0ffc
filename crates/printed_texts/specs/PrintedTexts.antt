-- How the texts of a project print in lists and reports (own).
use Rattle.std.specs.Prelude.{ℕ, Bool, ◌==◌, ◌||◌, if◌then◌else◌, List, ◌∷◌, ◌++◌, map}
use Rattle.std.specs.Fmt.{decimal}

-- a tab, an LF or a CR
abbrev pub is_break : ℕ → Bool
is_break b = (b == 9) || ((b == 10) || (b == 13))

-- each space, tab, CR and LF becomes `_`
abbrev pub word_byte : ℕ → ℕ
word_byte b = if (b == 32) || is_break b then 95 else b

-- a refdes, a pin number, the name of a net, of a sheet or of a symbol, a slot or a source, as it
-- prints
abbrev pub word : List ℕ → List ℕ
word text = map word_byte text

-- each tab, CR and LF becomes a space
abbrev pub flat_byte : ℕ → ℕ
flat_byte b = if is_break b then 32 else b

-- another value, as it prints
abbrev pub flat : List ℕ → List ℕ
flat text = map flat_byte text

-- a pin: refdes, `-`, pin number
abbrev pub pin_words : List ℕ → List ℕ → List ℕ
pin_words refdes number = word refdes ++ 45 ∷ word number

-- two words, parted by a space
abbrev pub two_words : List ℕ → List ℕ → List ℕ
two_words first second = first ++ 32 ∷ second

-- a name and a number
abbrev pub numbered_words : List ℕ → ℕ → List ℕ
numbered_words name number = two_words (word name) (decimal number)
