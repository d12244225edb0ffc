-- What a line says by itself, or the kind of its fault.
-- A line says what the grammar says in its steps, geda_grammar, specs/steps/SheetLines.antt: what
-- is said here serves the reader of files alone, whose own public clauses speak of no step.
use Rattle.std.specs.Prelude.{◌≡◌, ℕ, List, Option, Some, None, Result, Ok, Err}
use Rattle.geda_model.specs.Shapes.{ShapeIsInRange}
use Rattle.geda_model.specs.declared.name.NameFault.{NameFault}
use Rattle.geda_model.specs.declared.name.NameFault.TheVariants as names
use Rattle.geda_grammar.specs.declared.kind.ReadKind.{ReadKind}
use Rattle.geda_grammar.specs.declared.kind.ReadKind.TheVariants.{OutOfRange, UnknownLetter}
use Rattle.geda_grammar.specs.declared.letter.Letter.{Letter}
use Rattle.geda_grammar.specs.declared.row.Row.{Row}
use Rattle.geda_grammar.specs.declared.row.Row.TheVariants.{Drawn}
use Rattle.geda_grammar.specs.Classes.{fields_fault}
use Rattle.geda_grammar.specs.Faults.{letter_at}
use Rattle.geda_grammar.specs.steps.Following as following
use Rattle.geda_grammar.specs.steps.Reading as reading
use Rattle.geda_grammar.specs.steps.SheetLines.{sheet_line}
use Rattle.geda_text.specs.Lines.{fields_of, other_fields}
use Rattle.sheet_lines.specs.declared.fault.LineFault.{LineFault}
use Rattle.sheet_lines.specs.declared.fault.LineFault.TheVariants as faults
use Rattle.sheet_lines.specs.declared.line.SheetLine.{SheetLine}
use Rattle.sheet_lines.specs.declared.line.SheetLine.TheVariants.{Blank, Complete, Begins}
use Rattle.sheet_lines.specs.Pending.{pending_of}

-- what a line says
abbrev pub Line : Type 0
Line = reading.SheetLine following.Pending

-- what the code's values are in the grammar
abbrev pub as_line : SheetLine → Line
as_line Blank = reading.Blank
as_line (Complete row) = reading.Complete row
as_line (Begins pending) = reading.Begins (pending_of pending)

-- what a row holds is in range
abbrev pub RowIsInRange : Row → Type 0
RowIsInRange (Drawn s) = ShapeIsInRange s
RowIsInRange row = Unit {0}

-- what a line says is in its ranges
abbrev pub LineIsInRange : SheetLine → Type 0
LineIsInRange (Complete row) = RowIsInRange row
LineIsInRange line = Unit {0}

-- the kind of a fault that a line has by itself
abbrev pub kind_by : Option Letter → List (List ℕ) → Option ReadKind
kind_by None words = Some UnknownLetter
kind_by (Some letter) words = fields_fault letter words

abbrev pub own_kind : List ℕ → Option ReadKind
own_kind line = kind_by (letter_at line) (other_fields (fields_of line))

-- a line is read as what it says; a line that is refused says nothing, and has this kind
abbrev pub IsLineRead : List ℕ → Result SheetLine LineFault → Type 0
IsLineRead line (Ok what) = sheet_line line ≡ as_line what
IsLineRead line (Err faults.NoMemory) = Unit {0}
IsLineRead line (Err (faults.Refused kind)) =
    (sheet_line line ≡ reading.Faulty) × (own_kind line ≡ Some kind)

-- the fault of a name that is none is a field out of its range; want of memory stays one
abbrev pub SameFault : NameFault → LineFault → Type 0
SameFault names.NotAName e = e ≡ faults.Refused OutOfRange
SameFault names.NoMemory e = e ≡ faults.NoMemory
