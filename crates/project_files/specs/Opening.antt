-- The project of what is gathered (own).
use Rattle.std.specs.Prelude.{ℕ, ◌+◌, ◌||◌, nat_lt, if◌then◌else◌, Bool, List, [], ◌∷◌, ◌++◌, Result, Ok, Err, Some, length, map, option_map}
use Rattle.std.specs.declared.option.Option.{Option}
use Rattle.std.specs.List.{filter_map, flat_map, sum_by}
use Rattle.geda_model.specs.Limits.{most_project_text, most_sheets, most_symbols}
use Rattle.geda_model.specs.Sheets.{ObjectData, SheetData, SymbolData}
use Rattle.project_model.specs.Items.{Item}
use Rattle.project_model.specs.Projects.{ProjectData, empty_project}
use Rattle.project_model.specs.Changes.{put}
use Rattle.geda_grammar.specs.Canonical.{object_text, symbol_text}
use Rattle.project_files.specs.declared.fault.FileFault.{FileFault}
use Rattle.project_files.specs.Gathering.{AskedSymbol, Gathered}
use Rattle.project_model.specs.declared.change.Thing.TheVariants as things
use Rattle.project_model.specs.declared.change.Value.TheVariants as values
use Rattle.project_files.specs.declared.fault.FileFault.TheVariants as faults

-- symbols under their names
abbrev pub Library : Type 0
Library = List (List ℕ × SymbolData)

-- a symbol under its name, if there is one
abbrev pub found_symbol : AskedSymbol → Option (List ℕ × SymbolData)
found_symbol asked = option_map (λ symbol. (asked.0, symbol)) asked.1

-- the symbols that were found
abbrev pub found_library : Gathered → Library
found_library g = filter_map found_symbol g.symbols

-- the objects of all sheets
abbrev pub all_objects : Gathered → List ObjectData
all_objects g = flat_map (λ sheet. sheet.objects) g.sheets

-- the bytes of the canonical text of an object
abbrev pub object_bytes : ObjectData → ℕ
object_bytes o = length (object_text o)

-- the bytes of the canonical text of a symbol
abbrev pub symbol_bytes : List ℕ × SymbolData → ℕ
symbol_bytes symbol = length (symbol_text symbol.1)

-- the bytes of the canonical texts of all objects and symbols
abbrev pub project_text : Gathered → ℕ
project_text g = sum_by object_bytes (all_objects g) + sum_by symbol_bytes (found_library g)

-- the objects that all sheets of a project may have
abbrev pub most_project_objects : ℕ
most_project_objects = 400000

-- more objects than a project may have
abbrev pub has_too_many_objects : Gathered → Bool
has_too_many_objects g = nat_lt most_project_objects (length (all_objects g))

-- more sheets than a project may have, or more symbols, or more text
abbrev pub is_over_full : Gathered → Bool
is_over_full g =
    nat_lt most_sheets (length g.sheets)
    || (nat_lt most_symbols (length (found_library g)) || nat_lt most_project_text (project_text g))

-- objects of a sheet, of which the first has this id
abbrev pub object_items : List ℕ → ℕ → List ObjectData → List Item
object_items sheet id [] = []
object_items sheet id (o ∷ os) =
    (things.Object id, Some (values.Object (record { sheet = sheet; object = o })))
    ∷ object_items sheet (id + 1) os

-- a sheet under its name, and its objects
abbrev pub sheet_items : List ℕ → ℕ → SheetData → List Item
sheet_items name id sheet =
    (things.SheetName name, Some (values.Head sheet.head)) ∷ object_items name id sheet.objects

-- sheets under their names, with the objects of each, of which the first has this id
abbrev pub sheets_items : ℕ → List (List ℕ) → List SheetData → List Item
sheets_items id (name ∷ names) (sheet ∷ sheets) =
    sheet_items name id sheet ++ sheets_items (id + length sheet.objects) names sheets
sheets_items id names sheets = []

-- symbols under their names
abbrev pub symbol_items : Library → List Item
symbol_items library =
    map (λ symbol. (things.SymbolName symbol.0, Some (values.Symbol symbol.1))) library

-- the change that opens a project: the sheets in order, their objects under the ids from 0, and the
-- symbols
abbrev pub gathered_items : Gathered → List Item
gathered_items g = sheets_items 0 g.queue g.sheets ++ symbol_items (found_library g)

-- the project of what is gathered; limits are met after all reading
abbrev pub gathered_project : Gathered → Result ProjectData FileFault
gathered_project g =
    if has_too_many_objects g then Err faults.TooManyObjects
    else if is_over_full g then Err faults.ProjectFull
    else Ok (put empty_project (gathered_items g))
