-- Which lines open a file, and which fault a file has (own).
use Rattle.std.specs.Prelude.{◌≡◌, ◌⊎◌, ℕ, ◌+◌, ◌<◌, ◌≤◌, Bool, true, false, if◌then◌else◌, List, [], ◌∷◌, ◌++◌, length, Option, Some, None, codes}
use Rattle.std.specs.List.{AllByRecursion}
use Rattle.std.specs.Str.{is_utf8}
use Rattle.geda_model.specs.Limits.{most_file_bytes, most_objects}
use Rattle.geda_model.specs.Shapes.{PartData, ComponentData}
use Rattle.geda_model.specs.Sheets.{ObjectData, HeadData, SheetData, SymbolData}
use Rattle.geda_model.specs.declared.object.Body.TheVariants as bodies
use Rattle.geda_grammar.specs.declared.kind.ReadKind.{ReadKind}
use Rattle.geda_grammar.specs.declared.kind.ReadKind.TheVariants.{NoVersion, BadFormat, UnknownLetter, FieldCount, BadNumber, OutOfRange, BadAngle, CutShort, StrayBracket, NotAttribute, Nested, NotUtf8, TooLarge}
use Rattle.geda_grammar.specs.declared.letter.Letter.{Letter}
use Rattle.geda_grammar.specs.Letters.{byte_of, letter_of, is_bracket, is_object, is_attribute, is_open_symbol, is_component, is_unknown, is_version}
use Rattle.geda_grammar.specs.declared.letter.Letter.TheVariants.{CloseBlock, OpenSymbol, CloseSymbol}
use Rattle.geda_grammar.specs.Classes.{line_fault}
use Rattle.geda_grammar.specs.Spelling.{IsVersionLine, SpellSheet, SpellSymbol, SpellObject}
use Rattle.geda_text.specs.Lines.{IsCutLine, lines_of, fields_of, first_field, other_fields}

-- a kind of file: which lines spell what; whether it begins with a version line; whether components
-- may stand in it; when it has as many objects as it may, and when the symbol of its last object
-- has
pub record FileKind (V : Type 0) : Type 1 where
  pub Spell : V → List (List ℕ) → Type 0
  pub versioned : Bool
  pub is_symbol : Bool
  pub IsFull : V → Type 0
  pub HasFullSymbol : V → Type 0

-- the last object is a component whose symbol has 100,000 parts, and which has no attached texts
-- yet
abbrev pub EndsInFullSymbol : List ObjectData → Type 0
EndsInFullSymbol objects =
    (front : List ObjectData) × (c : ComponentData) × (parts : List PartData) ×
    (objects ≡ front ++ record { body = bodies.Component c; attrs = [] } ∷ []) ×
    (c.embedded ≡ Some parts) × (length parts ≡ most_objects)

abbrev pub sheet_file : FileKind SheetData
sheet_file = record {
  Spell = SpellSheet;
  versioned = true;
  is_symbol = false;
  IsFull = λ s. length s.objects ≡ most_objects;
  HasFullSymbol = λ s. EndsInFullSymbol s.objects;
}

abbrev pub symbol_file : FileKind SymbolData
symbol_file = record {
  Spell = SpellSymbol;
  versioned = true;
  is_symbol = true;
  IsFull = λ s. length s.parts ≡ most_objects;
  HasFullSymbol = λ s. ⊥;
}

abbrev pub object_file : FileKind ObjectData
object_file = record {
  Spell = SpellObject;
  versioned = false;
  is_symbol = false;
  IsFull = λ o. Unit {0};
  HasFullSymbol = λ o. EndsInFullSymbol (o ∷ []);
}

-- some further lines make the lines a spelled file
abbrev pub Opens : {V : Type 0} → FileKind V → List (List ℕ) → Type 0
Opens {V = V} file lines =
    (more : List (List ℕ)) × AllByRecursion IsCutLine more × (v : V) × file.Spell v (lines ++ more)

-- behind these lines a bracket may stand: so one sees whether a block or a symbol is open, or a `[`
-- expected. Where lines of a text or a picture are to come, a bracket may stand as well; but there
-- every line of UTF-8 opens, and of the others NotUtf8 is the kind, which comes before those that
-- ask this
abbrev pub Takes : {V : Type 0} → FileKind V → List (List ℕ) → Letter → Type 0
Takes file before letter = Opens file (before ++ (byte_of letter ∷ []) ∷ [])

-- behind these lines one more object would be one too many, on the outside or in a symbol
abbrev pub HasNoRoom : {V : Type 0} → FileKind V → List (List ℕ) → Type 0
HasNoRoom {V = V} file before =
    ((v : V) × file.Spell v before × file.IsFull v) ⊎
    ((v : V) × file.Spell v (before ++ codes "]" ∷ []) × file.HasFullSymbol v)

-- the next line is the version line
abbrev pub AwaitsVersion : {V : Type 0} → FileKind V → List (List ℕ) → Type 0
AwaitsVersion file before = (file.versioned ≡ true) × (before ≡ [])

-- a bracket that may not stand there
abbrev pub IsStray : {V : Type 0} → FileKind V → List (List ℕ) → Option Letter → Type 0
IsStray file before None = ⊥
IsStray file before (Some letter) = (is_bracket letter ≡ true) × ¬ (Takes file before letter)

-- the letter of a line
abbrev pub letter_at : List ℕ → Option Letter
letter_at line = letter_of (first_field (fields_of line))

-- when each kind holds at a line behind those before it
abbrev pub Holds : {V : Type 0} → FileKind V → List (List ℕ) → List ℕ → ReadKind → Type 0
Holds file before line TooLarge = HasNoRoom file before × (is_object (letter_at line) ≡ true)
Holds file before line NotUtf8 = is_utf8 line ≡ false
Holds file before line NoVersion =
    AwaitsVersion file before × (is_version (first_field (fields_of line)) ≡ false)
Holds file before line BadFormat =
    AwaitsVersion file before × (is_version (first_field (fields_of line)) ≡ true) ×
    ¬ ((head : HeadData) × IsVersionLine head line)
Holds file before line NotAttribute =
    Takes file before CloseBlock × (is_attribute (letter_at line) ≡ false)
Holds file before line StrayBracket =
    IsStray file before (letter_at line) ⊎
    (Takes file before OpenSymbol × (is_open_symbol (letter_at line) ≡ false))
Holds file before line UnknownLetter = is_unknown (letter_at line) ≡ true
Holds file before line Nested =
    ((file.is_symbol ≡ true) ⊎ Takes file before CloseSymbol) ×
    (is_component (letter_at line) ≡ true)
Holds file before line FieldCount =
    line_fault (letter_at line) (other_fields (fields_of line)) ≡ Some FieldCount
Holds file before line BadNumber =
    line_fault (letter_at line) (other_fields (fields_of line)) ≡ Some BadNumber
Holds file before line BadAngle =
    line_fault (letter_at line) (other_fields (fields_of line)) ≡ Some BadAngle
Holds file before line OutOfRange =
    line_fault (letter_at line) (other_fields (fields_of line)) ≡ Some OutOfRange
Holds file before line CutShort = ⊥

-- the order of the kinds on one line
abbrev pub kinds : List ReadKind
kinds =
    TooLarge ∷ NotUtf8 ∷ NoVersion ∷ BadFormat ∷ NotAttribute ∷ StrayBracket ∷ UnknownLetter ∷
    Nested ∷ FieldCount ∷ BadNumber ∷ BadAngle ∷ OutOfRange ∷ []

-- the first of these kinds that holds
abbrev pub FirstOf : (ReadKind → Type 0) → List ReadKind → ReadKind → Type 0
FirstOf P [] kind = ⊥
FirstOf P (k ∷ ks) kind = (P k × (kind ≡ k)) ⊎ (¬ (P k) × FirstOf P ks kind)

-- the least line that does not go on to open, counted from 1, and the first kind that holds there
pub record IsFaultAt {V : Type 0} (file : FileKind V) (lines : List (List ℕ)) (kind : ReadKind)
    (number : ℕ) : Type 0 where
  pub before : List (List ℕ)
  pub line : List ℕ
  pub after : List (List ℕ)
  pub lines_are : lines ≡ before ++ line ∷ after
  pub opens : Opens file before
  pub stops : ¬ (Opens file (before ++ line ∷ []))
  pub first : FirstOf (Holds file before line) kinds kind
  pub number_is : number ≡ length before + 1

-- the fault of lines that all go on to open: the version line, or any other, is missing
abbrev pub end_kind : Bool → List (List ℕ) → ReadKind
end_kind versioned [] = if versioned then NoVersion else CutShort
end_kind versioned (line ∷ lines) = CutShort

-- the lines end where one more is needed
pub record EndsShort {V : Type 0} (file : FileKind V) (lines : List (List ℕ)) (kind : ReadKind)
    (number : ℕ) : Type 0 where
  pub opens : Opens file lines
  pub unspelled : (v : V) → ¬ (file.Spell v lines)
  pub kind_is : kind ≡ end_kind file.versioned lines
  pub number_is : number ≡ length lines + 1

-- the fault of lines
abbrev pub IsFaultOfLines : {V : Type 0} → FileKind V → List (List ℕ) → ReadKind → ℕ → Type 0
IsFaultOfLines file lines kind number =
    IsFaultAt file lines kind number ⊎ EndsShort file lines kind number

-- the fault of a file
abbrev pub IsFault : {V : Type 0} → FileKind V → List ℕ → ReadKind → ℕ → Type 0
IsFault file bytes kind number =
    ((most_file_bytes < length bytes) × (kind ≡ TooLarge) × (number ≡ 1)) ⊎
    ((length bytes ≤ most_file_bytes) × IsFaultOfLines file (lines_of bytes) kind number)
