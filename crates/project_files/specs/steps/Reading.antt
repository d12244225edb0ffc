-- Steps of the code; no public clause cites them.
-- Files as they are read (own).
use Rattle.std.specs.Prelude.{◌≡◌, ℕ, List, Result, Ok, Some, None}
use Rattle.std.specs.declared.option.Option.{Option}
use Rattle.geda_defs.specs.Contents.{Files}
use Rattle.geda_model.specs.Sheets.{SheetData, SymbolData}
use Rattle.geda_grammar.specs.Faults.{sheet_file, symbol_file}
use Rattle.project_files.specs.declared.fault.FileFault.{FileFault}
use Rattle.project_files.specs.FileReads.{FileComesTo, WasRead, ReadAs}
use Rattle.project_files.specs.ProjectFiles.{OfSome}
use Rattle.project_files.specs.declared.fault.FileFault.TheVariants as faults

-- a value is what was found
abbrev pub IsFound : {A : Type 0} → A → Result (Option A) FileFault → Type 0
IsFound value read = read ≡ Ok (Some value)

-- what a file of a sheet comes to, if there is one
abbrev pub SheetOf : List ℕ → Option (List ℕ) → Result SheetData FileFault → Type 0
SheetOf name file read =
    FileComesTo (faults.Missing name) (ReadAs sheet_file (faults.Refused name) WasRead) file read

-- what a file of a symbol comes to, if there is one
abbrev pub SymbolOf : List ℕ → Option (List ℕ) → Result (Option SymbolData) FileFault → Type 0
SymbolOf name None read = read ≡ Ok None
SymbolOf name (Some bytes) read =
    ReadAs symbol_file (faults.Refused name) IsFound bytes read

-- what the sheet comes to that a folder has under a name
abbrev pub SheetFrom : Option Files → List ℕ → Result SheetData FileFault → Type 0
SheetFrom files name read = OfSome files (λ known. SheetOf name (known name) read)

-- what the symbol comes to that a folder has under a name
abbrev pub SymbolFrom : Option Files → List ℕ → Result (Option SymbolData) FileFault → Type 0
SymbolFrom files name read = OfSome files (λ known. SymbolOf name (known name) read)
