-- Steps of the code; no public clause cites them.
-- What the fields behind a letter say, or the kind of their fault.
use Rattle.std.specs.Prelude.{ℕ, ◌==◌, if◌then◌else◌, List, [], ◌∷◌, length, replicate, Option, Some, None, Result, Ok, Err}
use Rattle.geda_grammar.specs.declared.kind.ReadKind.{ReadKind}
use Rattle.geda_grammar.specs.declared.kind.ReadKind.TheVariants.{FieldCount, UnknownLetter}
use Rattle.geda_grammar.specs.declared.letter.Letter.{Letter}
use Rattle.geda_grammar.specs.Letters.{letter_of}
use Rattle.geda_grammar.specs.Classes.{Field, classes_of, number}
use Rattle.geda_grammar.specs.steps.Reading as reading
use Rattle.geda_grammar.specs.steps.SheetLines.{letter_line}
use Rattle.geda_text.specs.Lines.{fields_of}
use Rattle.sheet_lines.specs.SheetLines.{Line}
use Rattle.sheet_lines.specs.steps.Results.{◌>>=◌}
use Rattle.sheet_lines.specs.steps.Fields.{Read, fields_at, no_more}

-- what the fields behind a letter say, and the fields that are left
unfoldable pub line_at : Letter → List (List ℕ) → Read Line
line_at letter words = do
  fields ← fields_at (classes_of letter) words
  Ok (letter_line letter fields.0, fields.1)

-- so many numbers
unfoldable pub numbers_at : ℕ → List (List ℕ) → Read (List Field)
numbers_at count words = fields_at (replicate count number) words

-- what all the fields behind a letter say
abbrev pub whole_line : Letter → List (List ℕ) → Result Line ReadKind
whole_line letter words = do
  line ← line_at letter words
  rest ← no_more line.1
  Ok line.0

-- the number of fields comes before the first wrong one
abbrev pub kind_after_count : Letter → List (List ℕ) → ReadKind → ReadKind
kind_after_count letter words kind =
    if length words == length (classes_of letter) then kind else FieldCount

abbrev pub count_first :
    Letter → List (List ℕ) → Result Line ReadKind → Result Line ReadKind
count_first letter words (Ok line) = Ok line
count_first letter words (Err kind) = Err (kind_after_count letter words kind)

-- what the fields of a line say
abbrev pub line_of_letter : Option Letter → List (List ℕ) → Result Line ReadKind
line_of_letter None words = Err UnknownLetter
line_of_letter (Some letter) words = count_first letter words (whole_line letter words)

abbrev pub line_of_words : List (List ℕ) → Result Line ReadKind
line_of_words [] = Ok reading.Blank
line_of_words (first ∷ words) = line_of_letter (letter_of first) words

unfoldable pub line_in : List ℕ → Result Line ReadKind
line_in line = line_of_words (fields_of line)
