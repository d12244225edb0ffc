-- Steps of the code; no public clause cites them.
-- Words that begin with one hyphen alone, among words (own).
use Rattle.std.specs.Prelude.{ℕ, Bool, true, false, List, [], ◌∷◌}
use Rattle.option_words.specs.Words.{Look, plain, single, end, long, look}

-- a word of this look, or else one of the others, begins so
abbrev pub is_single_look : Look → Bool → Bool
is_single_look plain others = others
is_single_look single others = true
is_single_look end others = false
is_single_look (long name value) others = others

-- a word before `--` begins with one hyphen alone
abbrev pub has_single : List (List ℕ) → Bool
has_single [] = false
has_single (word ∷ rest) = is_single_look (look word) (has_single rest)
