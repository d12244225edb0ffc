-- Steps of the code; no public clause cites them.
-- What each sheet and each symbol adds to a project (own).
use Rattle.std.specs.Prelude.{ℕ, Option, Some, None, length}
use Rattle.std.specs.declared.option.Option.{Option}
use Rattle.std.specs.List.{sum_by}
use Rattle.geda_model.specs.Sheets.{SheetData, SymbolData}
use Rattle.geda_grammar.specs.Canonical.{symbol_text}
use Rattle.project_files.specs.Gathering.{AskedSymbol}
use Rattle.project_files.specs.Opening.{object_bytes}

-- the objects of a sheet
abbrev pub object_count : SheetData → ℕ
object_count sheet = length sheet.objects

-- the bytes of their canonical texts
abbrev pub sheet_bytes : SheetData → ℕ
sheet_bytes sheet = sum_by object_bytes sheet.objects

-- the bytes of the canonical text of a symbol, if there is one
abbrev pub found_bytes : Option SymbolData → ℕ
found_bytes None = 0
found_bytes (Some symbol) = length (symbol_text symbol)

-- the same for a symbol that was asked for
abbrev pub asked_bytes : AskedSymbol → ℕ
asked_bytes asked = found_bytes asked.1
