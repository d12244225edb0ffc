-- Files that are checked one after the other.
use Rattle.std.proofs.Common.{◌≡◌, ◌∙◌, ℕ, List, [], ◌∷◌, ◌++◌, Some, None, Result, Ok, Err, refl, ap, subst}
use Rattle.std.specs.declared.option.Option.{Option}
use Rattle.geda_defs.specs.Contents.{Files, KeepsFiles}
use Rattle.geda_grammar.specs.Faults.{symbol_file}
use Rattle.geda_model.specs.Sheets.{SymbolData}
use Rattle.project_files.specs.FileReads.{WasRead, ReadAs}
use Rattle.project_files.specs.ProjectFiles.{IsAnswer, OfSome}
use Rattle.project_files.specs.declared.fault.FileFault.{FileFault}
use Rattle.project_files.specs.declared.fault.FileFault.TheVariants as faults
use Rattle.project_files.proofs.Reading.{HoldsOfWhole, read_refused, read_then, read_whole}
use Rattle.sym_check.specs.declared.finding.SymFinding.{SymFinding}
use Rattle.sym_check.specs.declared.report.CheckedFile.{CheckedFile}
use Rattle.sym_check.specs.Findings.{found_in_symbol}
use Rattle.sym_check.specs.Order.{AreInOrder}
use Rattle.symbol_files.specs.CheckedFiles.{ChecksFrom, FileChecksFrom, FileChecksTo, IsCheckOf, file_with}

-- the bytes are those of a symbol, on which this is found
pub checked : (name bytes : List ℕ) (symbol : SymbolData) (findings : List SymFinding) (file : CheckedFile) → ReadAs symbol_file (faults.Refused name) WasRead bytes (Ok symbol) → AreInOrder (found_in_symbol symbol) findings → file ≡ file_with name findings → ReadAs symbol_file (faults.Refused name) (IsCheckOf name) bytes (Ok file)
checked name bytes symbol findings file h in_order is = read_then symbol_file (faults.Refused name) (faults.Refused name) (IsCheckOf name) bytes symbol (Ok file) h (findings, in_order, ap Ok is)

-- a fault of one answer, as that of another
answer_fault : {A B : Type 0} (P : Result A FileFault → Type 0) (Q : Result B FileFault → Type 0) (e : FileFault) → (P (Err e) → Q (Err e)) → IsAnswer P (Err e) → IsAnswer Q (Err e)
answer_fault P Q (faults.Missing file) f h = f h
answer_fault P Q (faults.Refused file line kind) f h = f h
answer_fault P Q faults.TooManyObjects f h = f h
answer_fault P Q faults.ProjectFull f h = f h
answer_fault P Q faults.FolderFault f h = h
answer_fault P Q faults.NoMemory f h = tt

-- they are refused
pub refused : (name bytes : List ℕ) (fault : FileFault) → IsAnswer (ReadAs symbol_file (faults.Refused name) WasRead bytes) (Err fault) → IsAnswer (ReadAs symbol_file (faults.Refused name) (IsCheckOf name) bytes) (Err fault)
refused name bytes fault h = answer_fault (ReadAs symbol_file (faults.Refused name) WasRead bytes) (ReadAs symbol_file (faults.Refused name) (IsCheckOf name) bytes) fault (read_refused symbol_file name bytes (λ f. f) (IsCheckOf name) fault) h

-- what the first part of a file comes to the file comes to
pub check_whole : (name : List ℕ) (outcome : Result CheckedFile FileFault) → HoldsOfWhole (λ file. FileChecksTo name file outcome)
check_whole name outcome None h = h
check_whole name outcome (Some whole) h = read_whole symbol_file (faults.Refused name) (IsCheckOf name) whole outcome h

-- what holds of the files that stayed holds of those before
of_kept : (old new : Option Files) (P : Files → Type 0) → KeepsFiles old new → OfSome new P → OfSome old P
of_kept None None P kept p = p
of_kept None (Some files) P kept p = (files, p)
of_kept (Some old) None P kept p = absurd kept
of_kept (Some old) (Some new) P kept p = subst P (λ i name. kept name i) p

pub kept_on : (old between now : Option Files) → KeepsFiles old between → KeepsFiles between now → KeepsFiles old now
kept_on None between now p q = tt
kept_on (Some f) None now p q = absurd p
kept_on (Some f) (Some g) None p q = absurd q
kept_on (Some f) (Some g) (Some h) p q = λ name. q name ∙ p name

pub stays : (files : Option Files) → KeepsFiles files files
stays None = tt
stays (Some files) = λ name. refl

-- what one more file comes to, over the files before
pub came : (old now : Option Files) (name : List ℕ) (read : Result CheckedFile FileFault) → KeepsFiles old now → FileChecksFrom now name read → FileChecksFrom old name read
came old now name read kept h = of_kept old now (λ known. FileChecksTo name (known name) read) kept h

-- the next file is checked
pub goes_on : (files : Option Files) (done : List CheckedFile) (name : List ℕ) (names : List (List ℕ)) (file : CheckedFile) (outcome : Result (List CheckedFile) FileFault) → FileChecksFrom files name (Ok file) → ChecksFrom files (done ++ file ∷ []) names outcome → ChecksFrom files done (name ∷ names) outcome
goes_on files done name names file outcome h rest = (Ok file, h, rest)

-- it is not
pub stops : (files : Option Files) (done : List CheckedFile) (name : List ℕ) (names : List (List ℕ)) (fault : FileFault) → FileChecksFrom files name (Err fault) → ChecksFrom files done (name ∷ names) (Err fault)
stops files done name names fault h = (Err fault, h, refl)
