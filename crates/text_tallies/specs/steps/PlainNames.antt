-- Steps of the code; no public clause cites them.
-- Names that print as they are.
use Rattle.std.specs.Prelude.{ℕ, Bool, not, ◌==◌, ◌||◌, List}
use Rattle.std.specs.List.{list_all}
use Rattle.printed_texts.specs.PrintedTexts.{is_break}

-- no space, tab, CR or LF
abbrev pub is_plain_byte : ℕ → Bool
is_plain_byte b = not ((b == 32) || is_break b)

-- the name has none
abbrev pub is_plain : List ℕ → Bool
is_plain name = list_all is_plain_byte name
