-- Files come to one report: a symbol has one list of findings in order.
use Rattle.std.proofs.Common.{◌∙◌, ℕ, List, [], ◌∷◌, ◌++◌, Some, Ok, ap, sym}
use Rattle.geda_defs.specs.Contents.{Files}
use Rattle.geda_grammar.specs.Faults.{symbol_file}
use Rattle.geda_grammar.proofs.ReadingLaws.{symbol_determined}
use Rattle.geda_model.specs.Sheets.{SymbolData}
use Rattle.project_files.specs.declared.fault.FileFault.TheVariants as faults
use Rattle.project_files.proofs.OneProject.{IsOne, after_one, file_one, read_one}
use Rattle.sym_check.specs.declared.finding.SymFinding.{SymFinding}
use Rattle.sym_check.specs.declared.report.CheckedFile.{CheckedFile}
use Rattle.sym_check.specs.Findings.{found_in_symbol}
use Rattle.sym_check.proofs.OneList.{one_list}
use Rattle.symbol_files.specs.CheckedFiles.{ChecksFrom, FileChecksFrom, IsCheckOf, file_with}

check_one : (name : List ℕ) (symbol : SymbolData) → IsOne (IsCheckOf name symbol)
check_one name symbol first second (findings, in_order, is) (others, so_too, so) =
    is ∙ ap (λ (fs : List SymFinding). Ok (file_with name fs)) (one_list (found_in_symbol symbol) findings others in_order so_too) ∙ sym so

file_check_one : (files : Files) (name : List ℕ) → IsOne (FileChecksFrom (Some files) name)
file_check_one files name = file_one (faults.Missing name) _ (read_one symbol_file symbol_determined (faults.Refused name) (IsCheckOf name) (check_one name)) (files name)

-- so do the files of several names
pub checks_one : (files : Files) (done : List CheckedFile) (names : List (List ℕ)) → IsOne (ChecksFrom (Some files) done names)
checks_one files done [] first second p q = p ∙ sym q
checks_one files done (name ∷ names) first second (read, come, p) (other, does, q) =
    after_one (FileChecksFrom (Some files) name) (λ (file : CheckedFile). ChecksFrom (Some files) (done ++ file ∷ []) names)
    (file_check_one files name) (λ file. checks_one files (done ++ file ∷ []) names) read other first second come does p q
