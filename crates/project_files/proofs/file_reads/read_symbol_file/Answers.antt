use Rattle.std.proofs.Common.{ℕ, List, None, Some, Ok, Err, refl, subst, ap, ◌∙◌}
use Rattle.std.proofs.lemmas.Result.{err_from_is_err_and}
use Rattle.geda_model.specs.Sheets.{SymbolData}
use Rattle.geda_grammar.specs.Faults.{symbol_file}
use Rattle.project_files.specs.declared.fault.FileFault.TheVariants as faults
use Rattle.project_files.specs.FileReads.{WasRead, ReadAs}
use Rattle.project_files.specs.steps.Reading.{IsFound, SymbolFrom, SymbolOf}
use Rattle.project_files.proofs.Passing.{fault_from}
use Rattle.project_files.proofs.Reading.{bytes_in, of_read, read_refused, read_then, symbol_whole}
use Rattle.project_files.proofs.file_reads.read_symbol_file.Goals as goal

pub returns-in_ok-symbol-in-Some-clause-read : goal.returns-in_ok-symbol-in-Some-clause-read
returns-in_ok-symbol-in-Some-clause-read g c =
    let name = c.args.name.now in
    let files = g.F.Folder.files c.args.folder.now in
    let symbol : SymbolData = c.in_ok-symbol-in-Some.symbol in
    let was = subst (λ (bytes : List ℕ). ReadAs symbol_file (faults.Refused name) WasRead bytes (Ok symbol)) c.deref.ensures.value c.in_ok-symbol-in-Some.ensures in
    of_read bytes_in name c.as_str.result.now files (Some c.in-Some.bytes) c.read.result (λ file. SymbolOf name file (Ok (Some symbol))) c.as_str.ensures.text (c.in_ok-bytes.was ∙ ap Ok c.in-Some.is) (symbol_whole name (Ok (Some symbol))) c.read.ensures.file
    (read_then symbol_file (faults.Refused name) (faults.Refused name) IsFound c.in-Some.bytes.items symbol (Ok (Some symbol)) was refl)

pub returns-in_err-symbol-in-Some-clause-read : goal.returns-in_err-symbol-in-Some-clause-read
returns-in_err-symbol-in-Some-clause-read g c =
    let p = err_from_is_err_and c.from_residual-in_err-symbol-in-Some.result c.from_residual-in_err-symbol-in-Some.ensures.1 in
    let name = c.args.name.now in
    let files = g.F.Folder.files c.args.folder.now in
    let fault = c.in_err-symbol-in-Some.field-0.0 in
    rw (p.1, p.2) (fault_from _ (ReadAs symbol_file (faults.Refused name) WasRead c.deref.result.now) (SymbolFrom files name) fault
    (λ h.
    let was = subst (λ (bytes : List ℕ). ReadAs symbol_file (faults.Refused name) WasRead bytes (Err fault)) c.deref.ensures.value h in
    of_read bytes_in name c.as_str.result.now files (Some c.in-Some.bytes) c.read.result (λ file. SymbolOf name file (Err fault)) c.as_str.ensures.text (c.in_ok-bytes.was ∙ ap Ok c.in-Some.is) (symbol_whole name (Err fault)) c.read.ensures.file
    (read_refused symbol_file name c.in-Some.bytes.items (λ f. f) IsFound fault was))
    c.in_err-symbol-in-Some.ensures)

pub returns-in-None-clause-read : goal.returns-in-None-clause-read
returns-in-None-clause-read g c =
    let name = c.args.name.now in
    of_read bytes_in name c.as_str.result.now (g.F.Folder.files c.args.folder.now) None c.read.result (λ file. SymbolOf name file (Ok None)) c.as_str.ensures.text (c.in_ok-bytes.was ∙ ap Ok c.in-None.is) (symbol_whole name (Ok None)) c.read.ensures.file refl
