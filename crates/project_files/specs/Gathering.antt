-- What is gathered, and what it comes to that objects ask for: symbols, and sheets that are named
-- (own).
use Rattle.std.specs.Prelude.{◌≡◌, ℕ, ◌&&◌, not, if◌then◌else◌, Bool, true, false, List, [], ◌∷◌, ◌++◌, Result, Ok, Some, None, codes, is_some, option_and_then}
use Rattle.std.specs.declared.option.Option.{Option}
use Rattle.std.specs.List.{find, fold, list_any}
use Rattle.std.specs.Str.{bytes_eq}
use Rattle.geda_defs.specs.Contents.{Files}
use Rattle.geda_model.specs.Names.{is_name}
use Rattle.geda_model.specs.Shapes.{PartData}
use Rattle.geda_model.specs.Sheets.{ObjectData, SheetData, SymbolData}
use Rattle.geda_model.specs.declared.object.Body.{Body}
use Rattle.attr_rules.specs.Attributes.{attrs}
use Rattle.attr_rules.specs.Components.{is_annotation}
use Rattle.geda_grammar.specs.Faults.{symbol_file}
use Rattle.project_files.specs.declared.fault.FileFault.{FileFault}
use Rattle.project_files.specs.FileReads.{ReadAs, Then}
use Rattle.geda_model.specs.declared.object.Body.TheVariants as bodies
use Rattle.project_files.specs.declared.fault.FileFault.TheVariants as faults

-- the files of sheets and those of symbols: a name may be read once as each
pub record ProjectFiles : Type 0 where
  pub sheets : Files
  pub symbols : Files

-- the basename of a component without an embedded symbol, if it is a Name
abbrev pub named_symbol : List ℕ → Option (List PartData) → Option (List ℕ)
named_symbol basename None = if is_name basename then Some basename else None
named_symbol basename (Some parts) = None

-- the file that an object asks for: that of a component's library symbol
abbrev pub asked_symbol : ObjectData → Option (List ℕ)
asked_symbol o = of_body o.body
  where
    of_body : Body → Option (List ℕ)
    of_body (bodies.Shape s) = None
    of_body (bodies.Component c) = named_symbol c.basename c.embedded

-- a symbol file that was asked for, and its symbol, if there is such a file
abbrev pub AskedSymbol : Type 0
AskedSymbol = List ℕ × Option SymbolData

-- what is gathered so far: the names of sheets, those that are read first; the sheets that are
-- read, in the same order; and the symbol files that were asked for
pub record Gathered : Type 0 where
  pub queue : List (List ℕ)
  pub sheets : List SheetData
  pub symbols : List AskedSymbol

-- nothing is read yet of these sheets
abbrev pub unread : List (List ℕ) → Gathered
unread names = record { queue = names; sheets = []; symbols = [] }

-- a symbol file has this name
abbrev pub has_file_name : List ℕ → AskedSymbol → Bool
has_file_name name asked = bytes_eq name asked.0

-- the symbol file of a name was asked for
abbrev pub is_asked : Gathered → List ℕ → Bool
is_asked g name = list_any (has_file_name name) g.symbols

-- the symbol that was read under a name
abbrev pub symbol_read : Gathered → List ℕ → Option SymbolData
symbol_read g name = option_and_then (λ asked. asked.1) (find (has_file_name name) g.symbols)

-- with one more symbol file
abbrev pub with_symbol : Gathered → List ℕ → Option SymbolData → Gathered
with_symbol g name symbol = record {
  queue = g.queue;
  sheets = g.sheets;
  symbols = g.symbols ++ (name, symbol) ∷ [];
}

-- what the file of a symbol comes to: that there is none is no fault
abbrev pub SymbolFileComesTo :
    Gathered → List ℕ → Option (List ℕ) → Result Gathered FileFault → Type 0
SymbolFileComesTo g name None outcome = outcome ≡ Ok (with_symbol g name None)
SymbolFileComesTo g name (Some bytes) outcome =
    ReadAs symbol_file (faults.Refused name)
    (λ symbol read. read ≡ Ok (with_symbol g name (Some symbol))) bytes outcome

-- the same, unless the name was asked for before
abbrev pub SymbolUnless :
    Bool → Files → Gathered → List ℕ → Result Gathered FileFault → Type 0
SymbolUnless true symbols g name outcome = outcome ≡ Ok g
SymbolUnless false symbols g name outcome = SymbolFileComesTo g name (symbols name) outcome

-- what comes of the symbol that an object asks for, if it asks for one
abbrev pub SymbolComesTo :
    Files → Gathered → Option (List ℕ) → Result Gathered FileFault → Type 0
SymbolComesTo symbols g None outcome = outcome ≡ Ok g
SymbolComesTo symbols g (Some name) outcome = SymbolUnless (is_asked g name) symbols g name outcome

-- the library symbol of an object
abbrev pub library_read : Gathered → ObjectData → Option SymbolData
library_read g o = option_and_then (symbol_read g) (asked_symbol o)

-- the sheets that a component with this library symbol names: none if it is graphical or a
-- no-connection directive
abbrev pub sources_of : ObjectData → Option SymbolData → List (List ℕ)
sources_of o library = if is_annotation o library then [] else attrs o library (codes "source")

-- the sheets that an object names
abbrev pub named_sheets : ObjectData → Option SymbolData → List (List ℕ)
named_sheets o library = of_body o.body
  where
    of_body : Body → List (List ℕ)
    of_body (bodies.Shape s) = []
    of_body (bodies.Component c) = sources_of o library

-- a value is the name of a file that the folder has, and is not in the queue
abbrev pub is_new_sheet : Files → List (List ℕ) → List ℕ → Bool
is_new_sheet sheets queue value =
    is_name value && (not (list_any (bytes_eq value) queue) && is_some (sheets value))

-- the queue with such a value behind it
abbrev pub queue_with_value : Files → List (List ℕ) → List ℕ → List (List ℕ)
queue_with_value sheets queue value =
    if is_new_sheet sheets queue value then queue ++ value ∷ [] else queue

-- with the sheets that an object names
abbrev pub with_sources : Files → ObjectData → Gathered → Gathered
with_sources sheets o g = record {
  queue = fold (queue_with_value sheets) g.queue (named_sheets o (library_read g o));
  sheets = g.sheets;
  symbols = g.symbols;
}

-- what an object comes to: first its symbol is read, then the sheets that it names are put behind
abbrev pub ObjectComesTo :
    ProjectFiles → ObjectData → Gathered → Result Gathered FileFault → Type 0
ObjectComesTo files o g outcome =
    (read : Result Gathered FileFault) × SymbolComesTo files.symbols g (asked_symbol o) read
    × Then read (λ known end. end ≡ Ok (with_sources files.sheets o known)) outcome

-- what objects come to, in order
abbrev pub ObjectsComeTo :
    ProjectFiles → List ObjectData → Gathered → Result Gathered FileFault → Type 0
ObjectsComeTo files [] g outcome = outcome ≡ Ok g
ObjectsComeTo files (o ∷ os) g outcome =
    (read : Result Gathered FileFault) × ObjectComesTo files o g read
    × Then read (ObjectsComeTo files os) outcome
