-- Steps of the code; no public clause cites them.
-- What is asked of a folder: each file of a sheet once, and each file of a symbol once (own).
use Rattle.std.specs.Prelude.{◌≡◌, ℕ, Bool, true, List, [], Result, Ok, Err, Some, None, option_and_then}
use Rattle.std.specs.declared.option.Option.{Option}
use Rattle.std.specs.List.{find, fold}
use Rattle.geda_defs.specs.Contents.{Files}
use Rattle.geda_model.specs.Sheets.{ObjectData, SheetData, SymbolData}
use Rattle.project_files.specs.declared.fault.FileFault.{FileFault}
use Rattle.project_files.specs.Gathering.{ProjectFiles, AskedSymbol, Gathered, ObjectComesTo, ObjectsComeTo, SymbolComesTo, asked_symbol, has_file_name, library_read, sources_of, queue_with_value}
use Rattle.project_files.specs.FileReads.{Then}
use Rattle.project_files.specs.ProjectFiles.{with_view}
use Rattle.project_files.specs.steps.Progress.{AskedData, gathered, is_asked_symbol}

-- the symbol of a name, if one was found
abbrev pub symbol_of : List AskedSymbol → Option (List ℕ) → Option SymbolData
symbol_of symbols name =
    option_and_then (λ n. option_and_then (λ asked. asked.1) (find (has_file_name n) symbols)) name

-- nothing is to be asked for a symbol: none is needed, or its file was asked for
abbrev pub is_known : List AskedSymbol → Option (List ℕ) → Bool
is_known symbols None = true
is_known symbols (Some name) = is_asked_symbol name symbols

-- so it is, and this is what was found
pub record IsKnown (symbols : List AskedSymbol) (name : Option (List ℕ))
    (library : Option SymbolData) : Type 0 where
  pub known : is_known symbols name ≡ true
  pub found : library ≡ symbol_of symbols name

-- nothing is to be asked for a component: its symbol is known, and it names no sheets
pub record AsksNothing (asked : AskedData) (object : ObjectData) : Type 0 where
  pub symbol : is_known asked.symbols (asked_symbol object) ≡ true
  pub sheets : sources_of object (symbol_of asked.symbols (asked_symbol object)) ≡ []

-- what the symbol comes to that is asked for, whatever sheets are read
abbrev pub AsksSymbol :
    AskedData → Option (List ℕ) → ProjectFiles → Result AskedData FileFault → Type 0
AsksSymbol before name files outcome =
    (sheets : List SheetData) →
    SymbolComesTo files.symbols (gathered sheets before) name (with_view (gathered sheets) outcome)

-- the sheets that a component names
abbrev pub component_values : ObjectData → Gathered → List (List ℕ)
component_values object known = sources_of object (library_read known object)

-- with the sheets that values name
abbrev pub with_values : Files → List (List ℕ) → Gathered → Gathered
with_values files values g = record {
  queue = fold (queue_with_value files) g.queue values;
  sheets = g.sheets;
  symbols = g.symbols;
}

-- values that are names of further sheets are put behind the queue
abbrev pub AsksValues :
    AskedData → List (List ℕ) → ProjectFiles → Result AskedData FileFault → Type 0
AsksValues before values files (Err fault) = ⊥
AsksValues before values files (Ok now) =
    (now.queue ≡ fold (queue_with_value files.sheets) before.queue values)
    × (now.symbols ≡ before.symbols)

-- with the sheets that a component names
abbrev pub with_component : Files → ObjectData → Gathered → Gathered
with_component files object known = with_values files (component_values object known) known

-- what a component comes to, whatever sheets are read
abbrev pub AsksComponent :
    AskedData → ObjectData → ProjectFiles → Result AskedData FileFault → Type 0
AsksComponent before object files outcome =
    (sheets : List SheetData) → (read : Result Gathered FileFault)
    × SymbolComesTo files.symbols (gathered sheets before) (asked_symbol object) read
    × Then read (λ known end. end ≡ Ok (with_component files.sheets object known))
    (with_view (gathered sheets) outcome)

-- what an object comes to, whatever sheets are read
abbrev pub AsksObject :
    AskedData → ObjectData → ProjectFiles → Result AskedData FileFault → Type 0
AsksObject before object files outcome =
    (sheets : List SheetData) →
    ObjectComesTo files object (gathered sheets before) (with_view (gathered sheets) outcome)

-- values that are left decide what all come to
abbrev pub LeavesValues :
    AskedData → List (List ℕ) → AskedData → List (List ℕ) → ProjectFiles → Type 0
LeavesValues before values now left files =
    (fold (queue_with_value files.sheets) now.queue left
    ≡ fold (queue_with_value files.sheets) before.queue values)
    × (now.symbols ≡ before.symbols)

-- objects that are left decide what all come to
abbrev pub LeavesObjects :
    AskedData → List ObjectData → AskedData → List ObjectData → ProjectFiles → Type 0
LeavesObjects before objects now left files =
    (sheets : List SheetData) (outcome : Result Gathered FileFault) →
    ObjectsComeTo files left (gathered sheets now) outcome →
    ObjectsComeTo files objects (gathered sheets before) outcome

-- what objects come to, whatever sheets are read
abbrev pub AsksObjects :
    AskedData → List ObjectData → ProjectFiles → Result AskedData FileFault → Type 0
AsksObjects before objects files outcome =
    (sheets : List SheetData) →
    ObjectsComeTo files objects (gathered sheets before) (with_view (gathered sheets) outcome)
