-- What is exported of a file: the text of what was read, or a fault; and of its first part, what is of all of it.
use Rattle.std.proofs.Common.{◌≡◌, ℕ, Bool, true, false, List, Some, None, Ok, Err, take, ap, ◌∙◌}
use Rattle.geda_model.specs.Sheets.{SheetData, SymbolData}
use Rattle.geda_grammar.specs.Canonical.{sheet_text, symbol_text}
use Rattle.geda_grammar.specs.Faults.{sheet_file, symbol_file}
use Rattle.project_files.specs.declared.fault.FileFault.{FileFault}
use Rattle.project_files.specs.declared.fault.FileFault.TheVariants as file_faults
use Rattle.project_files.specs.FileReads.{FileComesTo, WasRead, ReadAs}
use Rattle.project_files.specs.ProjectFiles.{IsAnswer}
use Rattle.project_files.proofs.Reading.{HoldsOfWhole, read_refused, read_then, read_whole}
use Rattle.gafd_run.specs.declared.fault.RunFault.TheVariants as faults
use Rattle.gafd_run.specs.Answers.{AnswerData, Outcome, TextOf, all_well, done}
use Rattle.gafd_run.specs.Faults.{run_fault}
use Rattle.gafd_run.specs.steps.Passing.{ComesOf}
use Rattle.gafd_run.proofs.Passing.{bytes_fault}

-- the bytes are those of a sheet or of a symbol, whose text goes out
pub sheet_exported : (name bytes text : List ℕ) (sheet : SheetData) (answer : AnswerData) → ReadAs sheet_file (file_faults.Refused name) WasRead bytes (Ok sheet) → text ≡ sheet_text sheet → answer ≡ all_well text → TextOf false name bytes (Ok answer)
sheet_exported name bytes text sheet answer h is made = read_then sheet_file (file_faults.Refused name) (faults.Refused name) (λ value outcome. outcome ≡ done (sheet_text value)) bytes sheet (Ok answer) h (ap Ok (made ∙ ap all_well is))

pub symbol_exported : (name bytes text : List ℕ) (symbol : SymbolData) (answer : AnswerData) → ReadAs symbol_file (file_faults.Refused name) WasRead bytes (Ok symbol) → text ≡ symbol_text symbol → answer ≡ all_well text → TextOf true name bytes (Ok answer)
symbol_exported name bytes text symbol answer h is made = read_then symbol_file (file_faults.Refused name) (faults.Refused name) (λ value outcome. outcome ≡ done (symbol_text value)) bytes symbol (Ok answer) h (ap Ok (made ∙ ap all_well is))

-- they are refused
pub sheet_refused : (name bytes : List ℕ) (fault : FileFault) → IsAnswer (ReadAs sheet_file (file_faults.Refused name) WasRead bytes) (Err fault) → ComesOf (TextOf false name bytes) (Err (run_fault fault))
sheet_refused name bytes fault h = bytes_fault (ReadAs sheet_file (file_faults.Refused name) WasRead bytes) (TextOf false name bytes) fault (read_refused sheet_file name bytes run_fault (λ value outcome. outcome ≡ done (sheet_text value)) fault) h

pub symbol_refused : (name bytes : List ℕ) (fault : FileFault) → IsAnswer (ReadAs symbol_file (file_faults.Refused name) WasRead bytes) (Err fault) → ComesOf (TextOf true name bytes) (Err (run_fault fault))
symbol_refused name bytes fault h = bytes_fault (ReadAs symbol_file (file_faults.Refused name) WasRead bytes) (TextOf true name bytes) fault (read_refused symbol_file name bytes run_fault (λ value outcome. outcome ≡ done (symbol_text value)) fault) h

text_of_whole : (is_symbol : Bool) (name whole : List ℕ) (outcome : Outcome) → TextOf is_symbol name (take 4194305 whole) outcome → TextOf is_symbol name whole outcome
text_of_whole true name whole outcome = read_whole symbol_file (faults.Refused name) (λ symbol answer. answer ≡ done (symbol_text symbol)) whole outcome
text_of_whole false name whole outcome = read_whole sheet_file (faults.Refused name) (λ sheet answer. answer ≡ done (sheet_text sheet)) whole outcome

-- what is exported of the first part of a file is exported of the file
pub text_whole : (is_symbol : Bool) (name : List ℕ) (outcome : Outcome) → HoldsOfWhole (λ file. FileComesTo (faults.Missing name) (TextOf is_symbol name) file outcome)
text_whole is_symbol name outcome None h = h
text_whole is_symbol name outcome (Some whole) h = text_of_whole is_symbol name whole outcome h
