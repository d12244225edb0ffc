-- Names that differ and print alike (own).
use Rattle.std.specs.Prelude.{ℕ, Bool, not, ◌&&◌, List}
use Rattle.std.specs.List.{list_any}
use Rattle.std.specs.Str.{bytes_eq}
use Rattle.printed_texts.specs.PrintedTexts.{word}
use Rattle.text_tallies.specs.TwoOfAList.{pairs}

-- two names differ, and both print as this text
abbrev pub print_alike : List ℕ → List ℕ × List ℕ → Bool
print_alike text two =
    not (bytes_eq two.0 two.1) && (bytes_eq (word two.0) text && bytes_eq (word two.1) text)

-- two of these names do
abbrev pub look_alike : List (List ℕ) → List ℕ → Bool
look_alike names text = list_any (print_alike text) (pairs names)
