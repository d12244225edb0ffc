-- Steps of the code; no public clause cites them.
-- What is read of each kind of file, row by row: one machine for all three.
use Rattle.std.specs.Prelude.{ℕ, Bool, true, false, List, [], Option, Some, None}
use Rattle.std.specs.Option.{option_map}
use Rattle.geda_model.specs.Limits.{most_objects}
use Rattle.geda_model.specs.Shapes.{PartData}
use Rattle.geda_model.specs.Sheets.{ObjectData}
use Rattle.geda_grammar.specs.declared.mode.Mode.TheVariants.{Settled}
use Rattle.geda_grammar.specs.declared.row.Row.{Row}
use Rattle.geda_grammar.specs.declared.place.Place.TheVariants as places
use Rattle.geda_grammar.specs.steps.Sheets.{sheet_end, sheet_step, symbol_end, symbol_step}
use Rattle.geda_grammar.specs.steps.Files.{RowMachine, only_one, sheet_has_no_room, symbol_has_no_room}
use Rattle.geda_read.specs.declared.rows.FileMode.{FileMode}
use Rattle.geda_read.specs.declared.rows.FileMode.TheVariants as files
use Rattle.geda_read.specs.declared.rows.OpenRows.{OpenRows}
use Rattle.geda_read.specs.declared.rows.OpenRows.TheVariants.{Sheet, Symbol}

-- how many objects there may be
abbrev pub most_of : FileMode → ℕ
most_of files.Object = 1
most_of mode = most_objects

-- no component may stand in it
abbrev pub is_symbol_file : FileMode → Bool
is_symbol_file files.Symbol = true
is_symbol_file mode = false

-- nothing is there
abbrev pub rows_start : FileMode → OpenRows
rows_start files.Symbol = Symbol (record { kept = []; mode = Settled })
rows_start mode = Sheet (places.Objects [] Settled)

-- one row more
abbrev pub rows_step : FileMode → OpenRows → Row → Option OpenRows
rows_step mode (Sheet place) row = option_map Sheet (sheet_step (most_of mode) place row)
rows_step mode (Symbol level) row = option_map Symbol (symbol_step level row)

-- one more object would be one too many
abbrev pub rows_full : FileMode → OpenRows → Bool
rows_full mode (Sheet place) = sheet_has_no_room (most_of mode) place
rows_full mode (Symbol level) = symbol_has_no_room level

abbrev pub rows_machine : FileMode → RowMachine OpenRows OpenRows
rows_machine mode = record {
  start = rows_start mode;
  step = rows_step mode;
  finish = Some;
  has_no_room = rows_full mode;
  is_symbol = is_symbol_file mode;
}

-- the objects of a sheet, and the parts of a symbol, at the end
abbrev pub objects_in : OpenRows → Option (List ObjectData)
objects_in (Sheet place) = sheet_end place
objects_in (Symbol level) = None

abbrev pub parts_in : OpenRows → Option (List PartData)
parts_in (Sheet place) = None
parts_in (Symbol level) = symbol_end level

-- the one object that is there
abbrev pub one_object : OpenRows → Option ObjectData
one_object rows = only_one (objects_in rows)
