-- Steps of the code; no public clause cites them.
-- What may come behind what is there, and the kind of a line that may not.
use Rattle.std.specs.Prelude.{ℕ, ◌+◌, Bool, true, false, not, ◌&&◌, ◌||◌, nat_lt, if◌then◌else◌, List, length, Option, Some}
use Rattle.std.specs.Str.{is_utf8}
use Rattle.geda_model.specs.Limits.{most_objects}
use Rattle.geda_grammar.specs.declared.kind.ReadKind.{ReadKind}
use Rattle.geda_grammar.specs.declared.kind.ReadKind.TheVariants.{NoVersion, BadFormat, UnknownLetter, StrayBracket, NotAttribute, Nested, NotUtf8, TooLarge}
use Rattle.geda_grammar.specs.declared.letter.Letter.{Letter}
use Rattle.geda_grammar.specs.declared.letter.Letter.TheVariants.{OpenBlock, CloseBlock, OpenSymbol, CloseSymbol}
use Rattle.geda_grammar.specs.Letters.{is_object, is_attribute, is_open_symbol, is_component, is_unknown, is_version}
use Rattle.geda_text.specs.Lines.{fields_of, first_field}
use Rattle.geda_grammar.specs.Faults.{letter_at}
use Rattle.geda_grammar.specs.declared.mode.Mode.{Mode}
use Rattle.geda_grammar.specs.declared.mode.Mode.TheVariants.{Settled, Last, Block}
use Rattle.geda_grammar.specs.declared.place.Place.{Place}
use Rattle.geda_grammar.specs.declared.place.Place.TheVariants.{Objects, Waiting, Inside}
use Rattle.geda_read.specs.declared.kinds.Expected.{Expected}
use Rattle.geda_read.specs.declared.rows.FileMode.{FileMode}
use Rattle.geda_read.specs.declared.rows.OpenRows.{OpenRows}
use Rattle.geda_read.specs.declared.rows.OpenRows.TheVariants.{Sheet, Symbol}
use Rattle.geda_read.specs.steps.Levels.{count_of}
use Rattle.geda_read.specs.steps.Rows.{most_of}

-- there is room for one more than are there
abbrev pub has_room : {A B : Type 0} → ℕ → List A → Mode B → Bool
has_room most kept mode = nat_lt (length kept + count_of mode) most

-- in a list that has room, or has none
abbrev pub level_expects : {B : Type 0} → Mode B → Bool → Expected
level_expects Settled room = record {
  full = not room;
  shape = room;
  text = room;
  open_block = false;
  close_block = false;
  open_symbol = false;
  close_symbol = false;
}
level_expects (Last last) room = record {
  full = not room;
  shape = room;
  text = room;
  open_block = true;
  close_block = false;
  open_symbol = false;
  close_symbol = false;
}
level_expects (Block last texts) room = record {
  full = false;
  shape = false;
  text = true;
  open_block = false;
  close_block = true;
  open_symbol = false;
  close_symbol = false;
}

-- `[` alone
abbrev pub expects_symbol : Expected
expects_symbol = record {
  full = false;
  shape = false;
  text = false;
  open_block = false;
  close_block = false;
  open_symbol = true;
  close_symbol = false;
}

-- the same in a symbol, which a `]` closes where no block is open
abbrev pub or_close : Expected → Expected
or_close e = record {
  full = e.full;
  shape = e.shape;
  text = e.text;
  open_block = e.open_block;
  close_block = e.close_block;
  open_symbol = e.open_symbol;
  close_symbol = not e.close_block;
}

-- on a sheet
abbrev pub place_expects : ℕ → Place → Expected
place_expects most (Objects kept mode) = level_expects mode (has_room most kept mode)
place_expects most (Waiting os line) = expects_symbol
place_expects most (Inside os line kept mode) =
    or_close (level_expects mode (has_room most_objects kept mode))

-- in each kind of file
unfoldable pub rows_expect : FileMode → OpenRows → Expected
rows_expect mode (Sheet place) = place_expects (most_of mode) place
rows_expect mode (Symbol level) =
    level_expects level.mode (has_room most_objects level.kept level.mode)

-- a bracket that may not come
abbrev pub is_stray_by : Expected → Option Letter → Bool
is_stray_by e (Some OpenBlock) = not e.open_block
is_stray_by e (Some CloseBlock) = not e.close_block
is_stray_by e (Some OpenSymbol) = not e.open_symbol
is_stray_by e (Some CloseSymbol) = not e.close_symbol
is_stray_by e letter = false

-- the kind of a line that begins with this letter, by what may come; `kind` is its field fault's
unfoldable pub place_kind : Bool → Expected → Option Letter → ReadKind → ReadKind
place_kind in_symbol e letter kind =
    if e.close_block && not (is_attribute letter) then NotAttribute
    else if is_stray_by e letter then StrayBracket
    else if e.open_symbol && not (is_open_symbol letter) then StrayBracket
    else if is_unknown letter then UnknownLetter
    else if in_symbol && is_component letter then Nested
    else kind

unfoldable pub line_kind : Bool → Expected → List ℕ → ReadKind → ReadKind
line_kind is_symbol e line kind =
    if e.full && is_object (letter_at line) then TooLarge
    else if not (is_utf8 line) then NotUtf8
    else place_kind (is_symbol || e.close_symbol) e (letter_at line) kind

-- the kind of a first line that is no version line
unfoldable pub version_kind : List ℕ → ReadKind
version_kind line =
    if not (is_utf8 line) then NotUtf8
    else if is_version (first_field (fields_of line)) then BadFormat
    else NoVersion
