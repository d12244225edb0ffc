-- Steps of the code; no public clause cites them.
-- A file that is being read, line by line, up to the first line that is refused.
use Rattle.std.specs.Prelude.{◌≡◌, ◌≤◌, ◌<◌, ℕ, ◌+◌, Bool, true, false, if◌then◌else◌, nat_lt, List, [], ◌∷◌, length, Option, Some, None, Result, Ok, Err}
use Rattle.std.specs.Option.{option_map}
use Rattle.geda_model.specs.Sheets.{HeadData, ObjectData, SheetData, SymbolData}
use Rattle.geda_model.specs.Limits.{most_file_bytes}
use Rattle.geda_text.specs.Lines.{CutterData, lines_of}
use Rattle.geda_grammar.specs.declared.kind.ReadKind.{ReadKind}
use Rattle.geda_grammar.specs.declared.kind.ReadKind.TheVariants.{CutShort, NotUtf8, NoVersion, OutOfRange, TooLarge}
use Rattle.geda_grammar.specs.declared.row.Row.{Row}
use Rattle.geda_grammar.specs.declared.row.Row.TheVariants.{Drawn}
use Rattle.geda_grammar.specs.steps.Following.{Pending, TextLines, more}
use Rattle.geda_grammar.specs.steps.Reading.{ReaderState, SheetLine, Blank, Complete, Begins, Faulty, Progress, Still, Whole, Ready, Amid}
use Rattle.geda_grammar.specs.steps.SheetLines.{sheet_line}
use Rattle.geda_grammar.specs.steps.Tests.{kind_or}
use Rattle.geda_grammar.specs.steps.Files.{FileState, Unbegun, Begun, file_start, make_object, make_sheet, make_symbol, version_of}
use Rattle.geda_read.specs.declared.file.Stage.{Stage}
use Rattle.geda_read.specs.declared.kinds.Expected.{Expected}
use Rattle.geda_read.specs.declared.rows.FileMode.{FileMode}
use Rattle.geda_read.specs.declared.rows.FileMode.TheVariants as files
use Rattle.geda_read.specs.declared.rows.OpenRows.{OpenRows}
use Rattle.geda_read.specs.steps.Expecting.{line_kind, rows_expect, version_kind}
use Rattle.sheet_lines.specs.Pending.{pending_of}
use Rattle.geda_read.specs.steps.Rows.{is_symbol_file, objects_in, one_object, parts_in, rows_machine, rows_start, rows_step}
use Rattle.sheet_lines.specs.SheetLines.{as_line, own_kind}
use Rattle.sheet_lines.specs.steps.Results.{◌>>=◌}
use Rattle.geda_read.specs.declared.fault.ReadFault.{ReadFault}
use Rattle.geda_read.specs.declared.fault.ReadFault.TheVariants as reads
use Rattle.sheet_lines.specs.declared.fault.LineFault.{LineFault}
use Rattle.sheet_lines.specs.declared.fault.LineFault.TheVariants as faults
use Rattle.sheet_lines.specs.declared.line.SheetLine as lines
use Rattle.sheet_lines.specs.declared.pending.Pending as code

-- between rows, or amid the shape whose lines are to come
abbrev pub reader_of : OpenRows → Option code.Pending → ReaderState OpenRows Pending
reader_of rows None = Ready rows
reader_of rows (Some pending) = Amid rows (pending_of pending)

-- where it stands
abbrev pub state_of : Stage → FileState OpenRows
state_of stage = of_head stage.head
  where
    of_head : Option HeadData → FileState OpenRows
    of_head None = Unbegun
    of_head (Some head) = Begun head (reader_of stage.rows stage.pending)

-- where a file starts
abbrev pub is_versioned : FileMode → Bool
is_versioned files.Object = false
is_versioned mode = true

abbrev pub start_of : FileMode → FileState OpenRows
start_of mode = file_start (rows_machine mode) (is_versioned mode)

-- what is there, or else this kind
abbrev pub or_refused : {A : Type 0} → ReadKind → Option A → Result A ReadKind
or_refused kind None = Err kind
or_refused kind (Some a) = Ok a

-- behind a head, where nothing is there
abbrev pub begun : FileMode → HeadData → FileState OpenRows
begun mode head = Begun head (Ready (rows_start mode))

-- the version line
unfoldable pub take_version : FileMode → List ℕ → Result (FileState OpenRows) ReadKind
take_version mode line = or_refused (version_kind line) (option_map (begun mode) (version_of line))

-- the kind of a line that is refused where it stands; `kind` is its field fault's
abbrev pub refused_kind : FileMode → OpenRows → List ℕ → ReadKind → ReadKind
refused_kind mode rows line kind = line_kind (is_symbol_file mode) (rows_expect mode rows) line kind

-- a row, or else this kind
unfoldable pub take_row : FileMode → OpenRows → Row → ReadKind → Result OpenRows ReadKind
take_row mode rows row kind = or_refused kind (rows_step mode rows row)

-- a text, or another shape, whose lines are to come
abbrev pub is_text : Pending → Bool
is_text (TextLines text left) = true
is_text pending = false

unfoldable pub admits_by : Expected → Pending → Bool
admits_by expected pending = if is_text pending then expected.text else expected.shape

-- the state behind rows that are there
abbrev pub map_ok : {A B : Type 0} → (A → B) → Result A ReadKind → Result B ReadKind
map_ok f (Ok a) = Ok (f a)
map_ok f (Err kind) = Err kind

-- a shape whose lines are to come, or else this kind
abbrev pub take_shape : Expected → OpenRows → Pending → ReadKind →
    Result (ReaderState OpenRows Pending) ReadKind
take_shape expected rows pending kind =
    if admits_by expected pending then Ok (Amid rows pending) else Err kind

-- what a line says, where a row comes next
abbrev pub take_said : FileMode → OpenRows → List ℕ → SheetLine Pending →
    Result (ReaderState OpenRows Pending) ReadKind
take_said mode rows line Blank = Ok (Ready rows)
take_said mode rows line (Complete row) =
    map_ok Ready (take_row mode rows row (refused_kind mode rows line OutOfRange))
take_said mode rows line (Begins pending) =
    take_shape (rows_expect mode rows) rows pending (refused_kind mode rows line OutOfRange)
take_said mode rows line Faulty =
    Err (refused_kind mode rows line (kind_or OutOfRange (own_kind line)))

unfoldable pub take_between : FileMode → OpenRows → List ℕ →
    Result (ReaderState OpenRows Pending) ReadKind
take_between mode rows line = take_said mode rows line (sheet_line line)

-- a line is read as what it says, or refused for its kind where this may come
abbrev pub IsReadBy : Bool → Expected → List ℕ → Result lines.SheetLine LineFault → Type 0
IsReadBy is_symbol expected line (Ok said) = sheet_line line ≡ as_line said
IsReadBy is_symbol expected line (Err faults.NoMemory) = Unit {0}
IsReadBy is_symbol expected line (Err (faults.Refused kind)) =
    (sheet_line line ≡ Faulty) ×
    (kind ≡ line_kind is_symbol expected line (kind_or OutOfRange (own_kind line)))

-- a line of a shape
abbrev pub take_more : FileMode → OpenRows → Option (Progress Pending) →
    Result (ReaderState OpenRows Pending) ReadKind
take_more mode rows None = Err NotUtf8
take_more mode rows (Some (Still pending)) = Ok (Amid rows pending)
take_more mode rows (Some (Whole shape)) =
    map_ok Ready (take_row mode rows (Drawn shape) NotUtf8)

unfoldable pub take_amid : FileMode → OpenRows → Pending → List ℕ →
    Result (ReaderState OpenRows Pending) ReadKind
take_amid mode rows pending line = take_more mode rows (more pending line)

-- the same where a shape may wait for lines
abbrev pub go_on : FileMode → OpenRows → Option Pending → List ℕ →
    Result (ReaderState OpenRows Pending) ReadKind
go_on mode rows None line = Ok (Ready rows)
go_on mode rows (Some pending) line = take_amid mode rows pending line

-- one line more
abbrev pub take_line : FileMode → FileState OpenRows → List ℕ →
    Result (FileState OpenRows) ReadKind
take_line mode Unbegun line = take_version mode line
take_line mode (Begun head (Ready rows)) line = map_ok (Begun head) (take_between mode rows line)
take_line mode (Begun head (Amid rows pending)) line =
    map_ok (Begun head) (take_amid mode rows pending line)

-- all lines, or the kind and the number of the first that is refused; so many came before
abbrev pub or_later : {A B : Type 0} → ℕ → Result A ReadKind → (A → Result B (ReadKind × ℕ)) →
    Result B (ReadKind × ℕ)
or_later number (Ok a) later = later a
or_later number (Err kind) later = Err (kind, number)

abbrev pub take_lines : FileMode → FileState OpenRows → ℕ → List (List ℕ) →
    Result (FileState OpenRows) (ReadKind × ℕ)
take_lines mode state number [] = Ok state
take_lines mode state number (line ∷ lines) =
    or_later (number + 1) (take_line mode state line)
    (λ next. take_lines mode next (number + 1) lines)

-- what is there behind the last line, or the kind of the missing one
abbrev pub end_rows : FileState OpenRows → Result (HeadData × OpenRows) ReadKind
end_rows Unbegun = Err NoVersion
end_rows (Begun head (Ready rows)) = Ok (head, rows)
end_rows (Begun head (Amid rows pending)) = Err CutShort

-- what stands behind a head, if all that was opened is closed
abbrev pub end_whole : {W V : Type 0} → (OpenRows → Option W) → (HeadData → W → V) →
    HeadData × OpenRows → Result V ReadKind
end_whole finish make ended = or_refused CutShort (option_map (make ended.0) (finish ended.1))

-- the same behind the last line, of each kind of file
abbrev pub end_by : {W V : Type 0} → (OpenRows → Option W) → (HeadData → W → V) →
    FileState OpenRows → Result V ReadKind
end_by finish make state = end_rows state >>= end_whole finish make

abbrev pub end_sheet : FileState OpenRows → Result SheetData ReadKind
end_sheet state = end_by objects_in make_sheet state

abbrev pub end_symbol : FileState OpenRows → Result SymbolData ReadKind
end_symbol state = end_by parts_in make_symbol state

abbrev pub end_object : FileState OpenRows → Result ObjectData ReadKind
end_object state = end_by one_object make_object state

-- what is there, or the kind with the number of the line behind the last
abbrev pub at_end : {V : Type 0} → ℕ → Result V ReadKind → Result V (ReadKind × ℕ)
at_end number (Ok v) = Ok v
at_end number (Err kind) = Err (kind, number)

-- what the lines of a file spell, or the kind and the number of the line of their fault
abbrev pub or_end : {V : Type 0} → ℕ → (FileState OpenRows → Result V ReadKind) →
    Result (FileState OpenRows) (ReadKind × ℕ) → Result V (ReadKind × ℕ)
or_end number finish (Ok state) = at_end number (finish state)
or_end number finish (Err fault) = Err fault

unfoldable pub read_lines : {V : Type 0} → FileMode → (FileState OpenRows → Result V ReadKind) →
    List (List ℕ) → Result V (ReadKind × ℕ)
read_lines mode finish lines =
    or_end (length lines + 1) finish (take_lines mode (start_of mode) 0 lines)

-- the same of bytes: over 4,194,304 of them are too many
unfoldable pub read_bytes : {V : Type 0} → FileMode → (FileState OpenRows → Result V ReadKind) →
    List ℕ → Result V (ReadKind × ℕ)
read_bytes mode finish bytes =
    if nat_lt most_file_bytes (length bytes) then Err (TooLarge, 1)
    else read_lines mode finish (lines_of bytes)

-- what a function answered, seen by view, is what is read, unless memory ran out
abbrev pub Tells : {V : Type 0} → ReadFault → Result V (ReadKind × ℕ) → Type 0
Tells reads.NoMemory read = Unit {0}
Tells (reads.At kind line) read = read ≡ Err (kind, line)

abbrev pub Answers : {X V : Type 0} → (X → V) → Result X ReadFault → Result V (ReadKind × ℕ) →
    Type 0
Answers view (Ok x) read = read ≡ Ok (view x)
Answers view (Err fault) read = Tells fault read

-- the lines of a file that is not too large
abbrev pub IsCut : List ℕ → Result CutterData ReadFault → Type 0
IsCut bytes (Ok cutter) =
    (length bytes ≤ most_file_bytes) × (cutter.lines ≡ lines_of bytes) × (cutter.number ≡ 0)
IsCut bytes (Err fault) =
    (most_file_bytes < length bytes) × (fault ≡ reads.At TooLarge 1)

-- the fault of a line at its number
abbrev pub fault_at : LineFault → ℕ → ReadFault
fault_at faults.NoMemory number = reads.NoMemory
fault_at (faults.Refused kind) number = reads.At kind number
