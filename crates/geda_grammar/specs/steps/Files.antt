-- Steps of the code; no public clause cites them.
-- Files that are being read, line by line (own).
use Rattle.std.specs.Prelude.{ℕ, Bool, true, false, not, ◌&&◌, ◌==◌, nat_lt, if◌then◌else◌, List, [], ◌∷◌, length, Option, Some, None, is_some, codes, Result, Err}
use Rattle.std.specs.List.{list_all}
use Rattle.std.specs.Char.{is_ascii_digit}
use Rattle.std.specs.Str.{bytes_eq}
use Rattle.std.specs.Str.Parse.{digits_value}
use Rattle.std.specs.Option.{option_map}
use Rattle.geda_model.specs.Limits.{most_file_bytes, most_objects}
use Rattle.geda_model.specs.Shapes.{PartData}
use Rattle.geda_model.specs.Sheets.{ObjectData, HeadData, SheetData, SymbolData}
use Rattle.geda_model.specs.declared.shape.Shape.{Shape}
use Rattle.geda_model.specs.declared.shape.Shape.TheVariants as shapes
use Rattle.geda_grammar.specs.declared.kind.ReadKind.{ReadKind}
use Rattle.geda_grammar.specs.declared.kind.ReadKind.TheVariants.{TooLarge}
use Rattle.geda_grammar.specs.Letters.{is_version}
use Rattle.geda_grammar.specs.declared.row.Row.{Row}
use Rattle.geda_grammar.specs.declared.row.Row.TheVariants.{Drawn}
use Rattle.geda_grammar.specs.declared.mode.Mode.TheVariants.{Settled}
use Rattle.geda_grammar.specs.steps.Levels.{Level, closed}
use Rattle.geda_grammar.specs.steps.Sheets as building
use Rattle.geda_grammar.specs.declared.place.Place.{Place}
use Rattle.geda_grammar.specs.declared.place.Place.TheVariants.{Objects, Waiting, Inside}
use Rattle.geda_grammar.specs.steps.Sheets.{make_part, sheet_step, sheet_end, symbol_step, symbol_end}
use Rattle.geda_grammar.specs.steps.Reading.{ReaderState, Ready, Amid, reader_step, reader_end}
use Rattle.geda_grammar.specs.steps.Following.{Pending, TextLines, PathLines, PictureName, PictureLines, picture, more}
use Rattle.geda_grammar.specs.steps.SheetLines.{sheet_line}
use Rattle.geda_grammar.specs.steps.Tests.{LineMachine, read_from}
use Rattle.geda_text.specs.Lines.{fields_of, lines_of}

-- a machine over rows: where it starts, what a row changes, what is there at the end, and whether
-- one more object would be one too many
pub record RowMachine (S W : Type 0) : Type 0 where
  pub start : S
  pub step : S → Row → Option S
  pub finish : S → Option W
  pub has_no_room : S → Bool
  pub is_symbol : Bool

-- as many as so many are there, and no block is open
abbrev pub is_full : {A : Type 0} → ℕ → Option (List A) → Bool
is_full most None = false
is_full most (Some items) = not (nat_lt (length items) most)

abbrev pub sheet_has_no_room : ℕ → Place → Bool
sheet_has_no_room most (Objects kept mode) = is_full most (closed building.make_object kept mode)
sheet_has_no_room most (Waiting os p) = false
sheet_has_no_room most (Inside os p kept mode) = is_full most_objects (closed make_part kept mode)

abbrev pub symbol_has_no_room : Level PartData Shape → Bool
symbol_has_no_room l = is_full most_objects (closed make_part l.kept l.mode)

-- the one object that is there
abbrev pub only_one : Option (List ObjectData) → Option ObjectData
only_one (Some (o ∷ [])) = Some o
only_one objects = None

abbrev pub object_end : Place → Option ObjectData
object_end place = only_one (sheet_end place)

-- the machines of the three kinds of files
abbrev pub sheet_rows : RowMachine Place (List ObjectData)
sheet_rows = record {
  start = Objects [] Settled;
  step = sheet_step most_objects;
  finish = sheet_end;
  has_no_room = sheet_has_no_room most_objects;
  is_symbol = false;
}

abbrev pub symbol_rows : RowMachine (Level PartData Shape) (List PartData)
symbol_rows = record {
  start = record { kept = []; mode = Settled };
  step = symbol_step;
  finish = symbol_end;
  has_no_room = symbol_has_no_room;
  is_symbol = true;
}

abbrev pub object_rows : RowMachine Place ObjectData
object_rows = record {
  start = Objects [] Settled;
  step = sheet_step 1;
  finish = object_end;
  has_no_room = sheet_has_no_room 1;
  is_symbol = false;
}

-- a shape by what was read of it
abbrev pub so_far : Pending → Shape
so_far (TextLines t left) = shapes.Text t
so_far (PathLines color stroke fill content left) = shapes.Path color stroke fill content
so_far (PictureName f embedded) = picture f [] None
so_far (PictureLines f file bytes) = picture f file (Some bytes)

-- such a shape may stand there
abbrev pub admits : {S W : Type 0} → RowMachine S W → S → Pending → Bool
admits m s p = is_some (m.step s (Drawn (so_far p)))

-- the format that a field says
abbrev pub format_of : List ℕ → Option ℕ
format_of word =
    if bytes_eq word (codes "1") then Some 1 else if bytes_eq word (codes "2") then Some 2 else None

abbrev pub head_of : List ℕ → ℕ → HeadData
head_of date format = record { date = digits_value 10 date; format = format }

-- the version that the fields of a line say
abbrev pub version_in : List (List ℕ) → Option HeadData
version_in (v ∷ date ∷ format ∷ []) =
    if is_version v && ((length date == 8) && list_all is_ascii_digit date)
    then option_map (head_of date) (format_of format) else None
version_in words = None

abbrev pub version_of : List ℕ → Option HeadData
version_of line = version_in (fields_of line)

-- before the version line, or behind it
pub data FileState (S : Type 0) : Type 0 where
  Unbegun : FileState S
  Begun : HeadData → ReaderState S Pending → FileState S

abbrev pub begun_at : {S : Type 0} → S → HeadData → FileState S
begun_at s head = Begun head (Ready s)

-- one line more
abbrev pub file_step : {S W : Type 0} → RowMachine S W → FileState S → List ℕ → Option (FileState S)
file_step m Unbegun line = option_map (begun_at m.start) (version_of line)
file_step m (Begun head r) line =
    option_map (Begun head) (reader_step sheet_line more m.step (admits m) r line)

-- what is there when no line is left
abbrev pub file_end : {S W V : Type 0} → RowMachine S W → (HeadData → W → V) → FileState S →
    Option V
file_end m make Unbegun = None
file_end m make (Begun head r) = option_map (make head) (reader_end m.finish r)

-- where a file starts: an object has no version line, and any head serves
abbrev pub file_start : {S W : Type 0} → RowMachine S W → Bool → FileState S
file_start m true = Unbegun
file_start m false = Begun (record { date = 0; format = 1 }) (Ready m.start)

abbrev pub reader_has_no_room : {S W : Type 0} → RowMachine S W → ReaderState S Pending → Bool
reader_has_no_room m (Ready s) = m.has_no_room s
reader_has_no_room m (Amid s p) = false

abbrev pub file_has_no_room : {S W : Type 0} → RowMachine S W → FileState S → Bool
file_has_no_room m Unbegun = false
file_has_no_room m (Begun head r) = reader_has_no_room m r

abbrev pub is_unbegun : {S : Type 0} → FileState S → Bool
is_unbegun Unbegun = true
is_unbegun (Begun head r) = false

-- what the tests of faults ask
abbrev pub file_machine : {S W : Type 0} → RowMachine S W → LineMachine (FileState S)
file_machine m = record {
  step = file_step m;
  has_no_room = file_has_no_room m;
  awaits_version = is_unbegun;
  is_symbol = m.is_symbol;
  version_of = version_of;
}

-- what is read of each kind of file
abbrev pub make_sheet : HeadData → List ObjectData → SheetData
make_sheet head objects = record { head = head; objects = objects }

abbrev pub make_symbol : HeadData → List PartData → SymbolData
make_symbol head parts = record { head = head; parts = parts }

abbrev pub make_object : HeadData → ObjectData → ObjectData
make_object head object = object

-- what the lines of a file spell, or the kind and the line of its fault
abbrev pub read_sheet : List (List ℕ) → Result SheetData (ReadKind × ℕ)
read_sheet lines =
    read_from (file_machine sheet_rows) (file_end sheet_rows make_sheet)
    (file_start sheet_rows true) 0 lines

abbrev pub read_symbol : List (List ℕ) → Result SymbolData (ReadKind × ℕ)
read_symbol lines =
    read_from (file_machine symbol_rows) (file_end symbol_rows make_symbol)
    (file_start symbol_rows true) 0 lines

abbrev pub read_object : List (List ℕ) → Result ObjectData (ReadKind × ℕ)
read_object lines =
    read_from (file_machine object_rows) (file_end object_rows make_object)
    (file_start object_rows false) 0 lines

-- the same of bytes: over 4,194,304 of them are too many
abbrev pub within_limit : {V : Type 0} → (List (List ℕ) → Result V (ReadKind × ℕ)) → List ℕ →
    Result V (ReadKind × ℕ)
within_limit read bytes =
    if nat_lt most_file_bytes (length bytes) then Err (TooLarge, 1) else read (lines_of bytes)
