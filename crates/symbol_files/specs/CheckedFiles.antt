-- What is found in the symbols of files (own).
use Rattle.std.specs.Prelude.{◌≡◌, ℕ, List, [], ◌∷◌, ◌++◌, Result, Ok}
use Rattle.std.specs.declared.option.Option.{Option}
use Rattle.geda_defs.specs.Contents.{Files}
use Rattle.geda_grammar.specs.Faults.{symbol_file}
use Rattle.geda_model.specs.Sheets.{SymbolData}
use Rattle.project_files.specs.FileReads.{FileComesTo, ReadAs, Then}
use Rattle.project_files.specs.ProjectFiles.{OfSome}
use Rattle.project_files.specs.declared.fault.FileFault.{FileFault}
use Rattle.project_files.specs.declared.fault.FileFault.TheVariants as faults
use Rattle.sym_check.specs.declared.finding.SymFinding.{SymFinding}
use Rattle.sym_check.specs.declared.report.CheckedFile.{CheckedFile}
use Rattle.sym_check.specs.Findings.{found_in_symbol}
use Rattle.sym_check.specs.Order.{AreInOrder}

-- a file with what is found in it
abbrev pub file_with : List ℕ → List SymFinding → CheckedFile
file_with name findings = record { file = name; findings = findings }

-- what a symbol comes to: the findings on it, in order
abbrev pub IsCheckOf : List ℕ → SymbolData → Result CheckedFile FileFault → Type 0
IsCheckOf name symbol outcome =
    (findings : List SymFinding) × AreInOrder (found_in_symbol symbol) findings
    × (outcome ≡ Ok (file_with name findings))

-- what the file of a symbol comes to, if there is one
abbrev pub FileChecksTo :
    List ℕ → Option (List ℕ) → Result CheckedFile FileFault → Type 0
FileChecksTo name file outcome =
    FileComesTo (faults.Missing name) (ReadAs symbol_file (faults.Refused name) (IsCheckOf name))
    file outcome

-- the same of the file that a folder has under a name
abbrev pub FileChecksFrom : Option Files → List ℕ → Result CheckedFile FileFault → Type 0
FileChecksFrom files name outcome =
    OfSome files (λ known. FileChecksTo name (known name) outcome)

-- what the files of these names come to, behind those that are checked: all of them with what is
-- found in them, or the first fault that is met
abbrev pub ChecksFrom : Option Files → List CheckedFile → List (List ℕ)
    → Result (List CheckedFile) FileFault → Type 0
ChecksFrom files checked [] outcome = outcome ≡ Ok checked
ChecksFrom files checked (name ∷ names) outcome =
    (read : Result CheckedFile FileFault) × FileChecksFrom files name read
    × Then read (λ file end. ChecksFrom files (checked ++ file ∷ []) names end) outcome
