-- What a value has to keep beside the ranges of its type, so that its text can be read again (own).
use Rattle.std.specs.Prelude.{◌≤◌, All, length}
use Rattle.geda_model.specs.Limits.{most_file_bytes, most_objects}
use Rattle.geda_model.specs.Sheets.{ObjectData, SheetData, SymbolData}
use Rattle.geda_grammar.specs.Canonical.{object_text, sheet_text, symbol_text}
use Rattle.geda_grammar.specs.Writable.{ObjectIsWritable, PartIsWritable}

-- a sheet: at most 100,000 objects, each of which can be written, and at most 4,194,304 bytes
pub record SheetFits (s : SheetData) : Type 0 where
  pub few : length s.objects ≤ most_objects
  pub each : All ObjectIsWritable s.objects
  pub size : length (sheet_text s) ≤ most_file_bytes

-- the same of a symbol and its parts, and of an object
pub record SymbolFits (s : SymbolData) : Type 0 where
  pub few : length s.parts ≤ most_objects
  pub each : All PartIsWritable s.parts
  pub size : length (symbol_text s) ≤ most_file_bytes

pub record ObjectFits (o : ObjectData) : Type 0 where
  pub each : ObjectIsWritable o
  pub size : length (object_text o) ≤ most_file_bytes
