-- Which files spell a sheet, a symbol or an object (gEDA File Format Document; formats 1 and 2).
use Rattle.std.specs.Prelude.{◌≡◌, ◌⊎◌, ◌≤◌, ℕ, true, List, [], ◌∷◌, ◌++◌, length, codes}
use Rattle.std.specs.List.{AllByRecursion, list_all}
use Rattle.std.specs.Char.{is_ascii_digit}
use Rattle.std.specs.Str.Parse.{digits_value}
use Rattle.geda_model.specs.Limits.{most_file_bytes, most_objects}
use Rattle.geda_model.specs.Sheets.{ObjectData, HeadData, SheetData, SymbolData}
use Rattle.geda_text.specs.Lines.{fields_of, lines_of}
use Rattle.geda_grammar.specs.declared.row.Row.{Row}
use Rattle.geda_grammar.specs.Rows.{IsRow}
use Rattle.geda_grammar.specs.Grammar.{SpellObjects, SpellParts}

-- a line without a field
abbrev pub IsBlankLine : List ℕ → Type 0
IsBlankLine line = fields_of line ≡ []

-- the rows, one after the other, with lines without a field before each and at the end
abbrev pub SpellRows : List Row → List (List ℕ) → Type 0
SpellRows [] lines = AllByRecursion IsBlankLine lines
SpellRows (row ∷ rows) lines =
    (blank : List (List ℕ)) × (line : List ℕ) × (following : List (List ℕ)) ×
    (rest : List (List ℕ)) × (lines ≡ blank ++ line ∷ (following ++ rest)) ×
    AllByRecursion IsBlankLine blank × IsRow row line following × SpellRows rows rest

-- the fields of a version line: `v`, eight digits of a date, and the format
pub record IsVersionLine (head : HeadData) (line : List ℕ) : Type 0 where
  pub date : List ℕ
  pub format : List ℕ
  pub line_is : fields_of line ≡ codes "v" ∷ date ∷ format ∷ []
  pub eight : length date ≡ 8
  pub digits : list_all is_ascii_digit date ≡ true
  pub value : head.date ≡ digits_value 10 date
  pub known : ((format ≡ codes "1") × (head.format ≡ 1)) ⊎
      ((format ≡ codes "2") × (head.format ≡ 2))

-- a version line, and lines that spell these rows
pub record IsFile (head : HeadData) (rows : List Row) (lines : List (List ℕ)) : Type 0 where
  pub first : List ℕ
  pub rest : List (List ℕ)
  pub lines_are : lines ≡ first ∷ rest
  pub version : IsVersionLine head first
  pub spelled : SpellRows rows rest

-- the lines of a sheet, which has at most 100,000 objects
abbrev pub SpellSheet : SheetData → List (List ℕ) → Type 0
SpellSheet s lines =
    (rows : List Row) × IsFile s.head rows lines × SpellObjects most_objects s.objects rows

-- the lines of a symbol
abbrev pub SpellSymbol : SymbolData → List (List ℕ) → Type 0
SpellSymbol s lines = (rows : List Row) × IsFile s.head rows lines × SpellParts s.parts rows

-- the lines of one object, without a version line
abbrev pub SpellObject : ObjectData → List (List ℕ) → Type 0
SpellObject o lines = (rows : List Row) × SpellRows rows lines × SpellObjects 1 (o ∷ []) rows

-- the bytes of each, at most 4,194,304
pub record Spells {V : Type 0} (Spell : V → List (List ℕ) → Type 0) (bytes : List ℕ) (v : V) :
    Type 0 where
  pub short : length bytes ≤ most_file_bytes
  pub lines : Spell v (lines_of bytes)
