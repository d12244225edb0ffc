-- A command comes to one outcome: its files come to one project or matrix, and a project has one net list.
use Rattle.std.proofs.Common.{◌≡◌, ℕ, true, false, Bool, List, [], Option, Some, None, Result, Ok, inl, inr, sym, ap, subst, ◌∙◌}
use Rattle.std.specs.declared.option.Option.{Option}
use Rattle.edit_entries.specs.Entries.{EntryData}
use Rattle.geda_defs.specs.Contents.{Files}
use Rattle.project_model.specs.Projects.{ProjectData}
use Rattle.geda_grammar.specs.Faults.{sheet_file, symbol_file}
use Rattle.geda_grammar.proofs.ReadingLaws.{sheet_determined, symbol_determined}
use Rattle.pin_matrix.specs.declared.level.Level.{Level}
use Rattle.net_list.specs.declared.nets.Nets.{Nets}
use Rattle.command_words.specs.declared.command.Command.{Command}
use Rattle.command_words.specs.declared.command.Command.TheVariants as commands
use Rattle.project_files.specs.declared.fault.FileFault.{FileFault}
use Rattle.project_files.specs.FileReads.{Then}
use Rattle.project_files.specs.Gathering.{ProjectFiles}
use Rattle.project_files.proofs.OneProject.{IsOne, after_one, file_one, gathers_one, read_one, then_one}
use Rattle.gafd_run.specs.declared.fault.RunFault.TheVariants as faults
use Rattle.gafd_run.specs.Answers.{AnswerData, ByNetList, ByNets, CircuitOf, ComesTo, FillsTo, IsFixed, MatrixComesTo, Opened, OpensTo, Outcome, RenumbersTo, SheetsOf, SheetsTo, SymbolsOf, TextOf, as_run, checked_under, circuit, fill_outcome, is_symbol_name, listed, opened_history, symbols_reported, tabled}
use Rattle.net_names.proofs.Uniqueness.{same_lists}
use Rattle.sym_check.specs.declared.report.CheckedFile.{CheckedFile}
use Rattle.symbol_files.proofs.OneCheck.{checks_one}

-- what a net list comes to
nets_one : (end : Nets → Outcome) (project : ProjectData) → IsOne (ByNets end project)
nets_one end project first second (inl (crowded, p)) (inl (too, q)) = p ∙ sym q
nets_one end project first second (inl (crowded, p)) (inr (room, list)) = absurd (room crowded)
nets_one end project first second (inr (room, list)) (inl (crowded, q)) = absurd (room crowded)
nets_one end project first second (inr (room, (nets, list, p))) (inr (too, (others, lists, q))) = p ∙ ap end (same_lists project nets others list lists) ∙ sym q

-- what sheets come to
sheets_one : (Comes : ProjectData → Outcome → Type 0) → ((project : ProjectData) → IsOne (Comes project)) → (files : ProjectFiles) (names : List (List ℕ)) → IsOne (SheetsTo Comes files names)
sheets_one Comes one files names first second (gathered, come, p) (other, does, q) =
    then_one Comes one (as_run other) first second (subst (λ (r : Result ProjectData FileFault). Then (as_run r) Comes first) (gathers_one files names gathered other come does) p) q

of_sheets_one : (answer : ProjectData → Nets → AnswerData) (files : ProjectFiles) (names : List (List ℕ)) → IsOne (SheetsOf answer files names)
of_sheets_one answer = sheets_one (ByNetList answer) (λ (project : ProjectData). nets_one (λ (nets : Nets). Ok (answer project nets)) project)

-- a matrix
matrix_one : (files : Files) (file : Option (List ℕ)) → IsOne (MatrixComesTo files file)
matrix_one files None first second p q = p ∙ sym q
matrix_one files (Some file) first second p q = file_one (faults.Missing file) _ (λ bytes one other is so. is ∙ sym so) (files file) first second p q

text_one : (is_symbol : Bool) (name bytes : List ℕ) → IsOne (TextOf is_symbol name bytes)
text_one true name bytes = read_one symbol_file symbol_determined (faults.Refused name) _ (λ value first second p q. p ∙ sym q) bytes
text_one false name bytes = read_one sheet_file sheet_determined (faults.Refused name) _ (λ value first second p q. p ∙ sym q) bytes

-- what symbols come to
symbols_one : (files : Files) (names : List (List ℕ)) → IsOne (SymbolsOf (Some files) names)
symbols_one files names first second (read, come, p) (other, does, q) =
    then_one (λ (checked : List CheckedFile) (end : Outcome). end ≡ Ok (symbols_reported checked)) (λ checked one another is so. is ∙ sym so) (as_run other) first second
    (subst (λ (r : Result (List CheckedFile) FileFault). Then (as_run r) (λ checked end. end ≡ Ok (symbols_reported checked)) first) (checks_one files [] names read other come does) p) q

-- what comes of a sheet that is opened
opened_one : (files : Files) (sheet : List ℕ) (Next : List EntryData → Outcome → Type 0) → ((h : List EntryData) → IsOne (Next h)) → IsOne (Opened (Some files) sheet Next)
opened_one files sheet Next one first second (read, come, p) (other, does, q) =
    after_one (OpensTo sheet files) Next (file_one (faults.Missing sheet) (λ bytes end. end ≡ opened_history sheet bytes) (λ bytes one other is so. is ∙ sym so) (files sheet)) one read other first second come does p q

-- so a command comes to one
pub same_outcomes : (files : Files) (command : Option Command) (first second : Outcome) → IsFixed command → ComesTo (Some files) command first → ComesTo (Some files) command second → first ≡ second
same_outcomes files None first second fixed p q = p ∙ sym q
same_outcomes files (Some (commands.Netlist form names)) first second fixed p q = of_sheets_one (listed form) (record { sheets = files; symbols = files }) names first second p q
same_outcomes files (Some (commands.Spice names)) first second fixed p q = sheets_one CircuitOf (nets_one circuit) (record { sheets = files; symbols = files }) names first second p q
same_outcomes files (Some (commands.Drc matrix names)) first second fixed (read, come, p) (other, does, q) =
    after_one (MatrixComesTo files matrix) (λ (levels : List Level). SheetsOf (checked_under levels) (record { sheets = files; symbols = files }) names) (matrix_one files matrix) (λ levels. of_sheets_one (checked_under levels) (record { sheets = files; symbols = files }) names) read other first second come does p q
same_outcomes files (Some (commands.Export name)) first second fixed p q = file_one (faults.Missing name) _ (text_one (is_symbol_name name) name) (files name) first second p q
same_outcomes files (Some (commands.Symcheck names)) first second fixed p q = symbols_one files names first second p q
same_outcomes files (Some (commands.Renumber names)) first second fixed p q = sheets_one RenumbersTo (λ project one other is so. is ∙ sym so) (record { sheets = files; symbols = files }) names first second p q
same_outcomes files (Some (commands.Table sheet)) first second fixed p q = opened_one files sheet (λ h end. end ≡ tabled sheet h) (λ h one other is so. is ∙ sym so) first second p q
same_outcomes files (Some (commands.Fill sheet table)) first second fixed p q =
    opened_one files sheet (FillsTo (Some files) sheet table) (λ h. file_one (faults.Missing table) (λ bytes end. end ≡ fill_outcome sheet table h bytes) (λ bytes one other is so. is ∙ sym so) (files table)) first second p q
same_outcomes files (Some (commands.Work start count)) first second fixed p q = absurd fixed
same_outcomes files (Some (commands.Serve address store access)) first second fixed p q = absurd p
same_outcomes files (Some (commands.Store store database)) first second fixed p q = absurd p
