-- Steps of the code; no public clause cites them.
-- The fields of a line, one after the other.
use Rattle.std.specs.Prelude.{ℕ, ℤ, Bool, true, false, codes, ◌++◌, if◌then◌else◌, List, [], ◌∷◌, Option, Some, None, Result, Ok, Err}
use Rattle.geda_model.specs.Names.{is_word}
use Rattle.geda_text.specs.Lines.{whole_of}
use Rattle.geda_grammar.specs.declared.kind.ReadKind.{ReadKind}
use Rattle.geda_grammar.specs.declared.kind.ReadKind.TheVariants.{FieldCount, BadNumber, OutOfRange}
use Rattle.geda_grammar.specs.declared.field_class.Class.{Class}
use Rattle.geda_grammar.specs.declared.field_class.Class.TheVariants.{Within, UpTo, Lines, Angle, Basename}
use Rattle.geda_grammar.specs.Classes.{Field, Number, Word, fits, misfit}
use Rattle.sheet_lines.specs.steps.Results.{◌>>=◌}

-- what was read, and the fields behind it
abbrev pub Read : Type 0 → Type 0
Read A = Result (A × List (List ℕ)) ReadKind

-- the next field
abbrev pub word_at : List (List ℕ) → Read (List ℕ)
word_at [] = Err FieldCount
word_at (word ∷ words) = Ok (word, words)

-- the number that a field spells
abbrev pub or_bad : Option ℤ → Result ℤ ReadKind
or_bad None = Err BadNumber
or_bad (Some z) = Ok z

-- the next field as a number
unfoldable pub whole_at : List (List ℕ) → Read ℤ
whole_at words = do
  word ← word_at words
  z ← or_bad (whole_of word.0)
  Ok (z, word.1)

-- the next field as a number of a class
unfoldable pub number_at : Class → List (List ℕ) → Read Field
number_at class words = do
  z ← whole_at words
  if fits class z.0 then Ok (Number z.0, z.1) else Err (misfit class)

-- the word that bytes are
unfoldable pub word_in : List ℕ → Result (List ℕ) ReadKind
word_in bytes = if is_word bytes then Ok bytes else Err OutOfRange

-- the next field as a basename
unfoldable pub name_at : List (List ℕ) → Read Field
name_at words = do
  word ← word_at words
  name ← word_in word.0
  Ok (Word name, word.1)

-- the field that a basename stands in, where it is embedded or not
abbrev pub spelled_basename : Bool → List ℕ → List ℕ
spelled_basename true basename = codes "EMBEDDED" ++ basename
spelled_basename false basename = basename

-- the next field as one of a class
abbrev pub field_at : Class → List (List ℕ) → Read Field
field_at (Within most) words = number_at (Within most) words
field_at (UpTo most) words = number_at (UpTo most) words
field_at Lines words = number_at Lines words
field_at Angle words = number_at Angle words
field_at Basename words = name_at words

-- the next fields, one of each class
abbrev pub fields_at : List Class → List (List ℕ) → Read (List Field)
fields_at [] words = Ok ([], words)
fields_at (class ∷ classes) words = do
  field ← field_at class words
  fields ← fields_at classes field.1
  Ok (field.0 ∷ fields.0, fields.1)

-- no field is left
abbrev pub no_more : List (List ℕ) → Result (Unit {0}) ReadKind
no_more [] = Ok tt
no_more (word ∷ words) = Err FieldCount
