-- Steps of the code; no public clause cites them.
-- The kind of a fault, by tests on the state that the machine is in (own).
use Rattle.std.specs.Prelude.{ℕ, ◌+◌, Bool, true, false, not, ◌&&◌, ◌||◌, if◌then◌else◌, List, [], ◌∷◌, Option, Some, None, is_some, Result, Ok, Err}
use Rattle.std.specs.Str.{is_utf8}
use Rattle.geda_model.specs.Sheets.{HeadData}
use Rattle.geda_grammar.specs.declared.kind.ReadKind.{ReadKind}
use Rattle.geda_grammar.specs.declared.kind.ReadKind.TheVariants.{NoVersion, BadFormat, UnknownLetter, FieldCount, BadNumber, OutOfRange, BadAngle, CutShort, StrayBracket, NotAttribute, Nested, NotUtf8, TooLarge}
use Rattle.geda_grammar.specs.declared.letter.Letter.{Letter}
use Rattle.geda_grammar.specs.Letters.{byte_of, is_bracket, is_object, is_attribute, is_open_symbol, is_component, is_unknown, is_version}
use Rattle.geda_grammar.specs.declared.letter.Letter.TheVariants.{CloseBlock, OpenSymbol, CloseSymbol}
use Rattle.geda_grammar.specs.Classes.{line_fault}
use Rattle.geda_grammar.specs.Faults.{letter_at, kinds}
use Rattle.geda_text.specs.Lines.{fields_of, first_field, other_fields}

-- one of the four kinds of a wrong field
abbrev pub is_field_count : Option ReadKind → Bool
is_field_count (Some FieldCount) = true
is_field_count kind = false

abbrev pub is_bad_number : Option ReadKind → Bool
is_bad_number (Some BadNumber) = true
is_bad_number kind = false

abbrev pub is_bad_angle : Option ReadKind → Bool
is_bad_angle (Some BadAngle) = true
is_bad_angle kind = false

abbrev pub is_out_of_range : Option ReadKind → Bool
is_out_of_range (Some OutOfRange) = true
is_out_of_range kind = false

-- what the tests ask of a machine: whether a bracket may come, whether one more object would be one
-- too many, whether the version line comes next, and what version a line has
pub record LineMachine (T : Type 0) : Type 0 where
  pub step : T → List ℕ → Option T
  pub has_no_room : T → Bool
  pub awaits_version : T → Bool
  pub is_symbol : Bool
  pub version_of : List ℕ → Option HeadData

-- a bracket may come
abbrev pub takes : {T : Type 0} → LineMachine T → T → Letter → Bool
takes m t letter = is_some (m.step t (byte_of letter ∷ []))

-- a bracket that may not
abbrev pub is_stray : {T : Type 0} → LineMachine T → T → Option Letter → Bool
is_stray m t None = false
is_stray m t (Some letter) = is_bracket letter && not (takes m t letter)

-- the test of each kind
abbrev pub test : {T : Type 0} → LineMachine T → T → List ℕ → ReadKind → Bool
test m t line TooLarge = m.has_no_room t && is_object (letter_at line)
test m t line NotUtf8 = not (is_utf8 line)
test m t line NoVersion = m.awaits_version t && not (is_version (first_field (fields_of line)))
test m t line BadFormat =
    m.awaits_version t &&
    (is_version (first_field (fields_of line)) && not (is_some (m.version_of line)))
test m t line NotAttribute = takes m t CloseBlock && not (is_attribute (letter_at line))
test m t line StrayBracket =
    is_stray m t (letter_at line) || (takes m t OpenSymbol && not (is_open_symbol (letter_at line)))
test m t line UnknownLetter = is_unknown (letter_at line)
test m t line Nested = (m.is_symbol || takes m t CloseSymbol) && is_component (letter_at line)
test m t line FieldCount =
    is_field_count (line_fault (letter_at line) (other_fields (fields_of line)))
test m t line BadNumber =
    is_bad_number (line_fault (letter_at line) (other_fields (fields_of line)))
test m t line BadAngle = is_bad_angle (line_fault (letter_at line) (other_fields (fields_of line)))
test m t line OutOfRange =
    is_out_of_range (line_fault (letter_at line) (other_fields (fields_of line)))
test m t line CutShort = false

-- the first of these kinds whose test holds
abbrev pub first_true : (ReadKind → Bool) → List ReadKind → Option ReadKind
first_true holds [] = None
first_true holds (kind ∷ kinds) = if holds kind then Some kind else first_true holds kinds

-- the kind of the fault at a line that is not taken
abbrev pub kind_or : ReadKind → Option ReadKind → ReadKind
kind_or other None = other
kind_or other (Some kind) = kind

abbrev pub kind_of : {T : Type 0} → LineMachine T → T → List ℕ → ReadKind
kind_of m t line = kind_or OutOfRange (first_true (test m t line) kinds)

-- the kind where the lines end too early
abbrev pub early_end : {T : Type 0} → LineMachine T → T → ReadKind
early_end m t = if m.awaits_version t then NoVersion else CutShort

-- what is there when no line is left
abbrev pub ended_with : {V : Type 0} → ReadKind → ℕ → Option V → Result V (ReadKind × ℕ)
ended_with kind number None = Err (kind, number)
ended_with kind number (Some v) = Ok v

-- what the lines spell, or the kind and the line of their fault; so many lines came before
abbrev pub read_from : {T V : Type 0} → LineMachine T → (T → Option V) → T → ℕ → List (List ℕ) →
    Result V (ReadKind × ℕ)
read_from m finish t number [] = ended_with (early_end m t) (number + 1) (finish t)
read_from {T = T} {V = V} m finish t number (line ∷ lines) =
    go (m.step t line) (λ u. read_from m finish u (number + 1) lines)
  where
    go : Option T → (T → Result V (ReadKind × ℕ)) → Result V (ReadKind × ℕ)
    go None later = Err (kind_of m t line, number + 1)
    go (Some u) later = later u
