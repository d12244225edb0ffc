-- What a command comes to over the files of a folder (own).
use Rattle.std.specs.Prelude.{◌≡◌, ◌⊎◌, ⊤, ℕ, Bool, true, false, if◌then◌else◌, List, [], ◌++◌, Result, Ok, Err, Some, None, nat_eq, codes}
use Rattle.std.specs.declared.option.Option.{Option}
use Rattle.std.specs.Fmt.{decimal}
use Rattle.std.specs.List.{ends_with, list_any}
use Rattle.std.specs.Result.{result_map_both}
use Rattle.attr_table.specs.SheetTables.{table_text}
use Rattle.edit_entries.specs.Entries.{EntryData}
use Rattle.edit_rules.specs.Histories.{project}
use Rattle.geda_defs.specs.Contents.{Files}
use Rattle.project_model.specs.Projects.{ProjectData}
use Rattle.geda_grammar.specs.Faults.{sheet_file, symbol_file}
use Rattle.geda_grammar.specs.Canonical.{sheet_text, symbol_text}
use Rattle.hierarchy.specs.Instances.{IsCrowded}
use Rattle.net_list.specs.declared.nets.Nets.{Nets}
use Rattle.net_list.specs.declared.form.Form.{Form}
use Rattle.backends.specs.Forms.{net_text}
use Rattle.pin_matrix.specs.declared.level.Level.{Level}
use Rattle.pin_matrix.specs.Matrices.{usual}
use Rattle.pin_matrix.specs.MatrixFiles.{matrix_in, toml_document}
use Rattle.toml.specs.Data.{Members}
use Rattle.reports.specs.NetLists.{CheckData, HasNetList, checked as check_of}
use Rattle.spice_out.specs.declared.fault.SpiceFault.{SpiceFault}
use Rattle.spice_out.specs.Faults.{spice_fault}
use Rattle.spice_out.specs.SpiceText.{spice_text}
use Rattle.work_run.specs.RunText.{WorkComesTo}
use Rattle.command_words.specs.declared.command.Command.{Command}
use Rattle.command_words.specs.declared.command.Command.TheVariants.{Netlist, Spice, Drc, Export, Symcheck, Renumber, Table, Fill, Work, Serve, Store}
use Rattle.project_files.specs.declared.fault.FileFault.{FileFault}
use Rattle.project_files.specs.FileReads.{FileComesTo, ReadAs, Then}
use Rattle.project_files.specs.Gathering.{ProjectFiles}
use Rattle.project_files.specs.ProjectFiles.{GathersTo, OfFiles, OfSome}
use Rattle.sym_check.specs.declared.report.CheckedFile.{CheckedFile}
use Rattle.sym_check.specs.Report.{all_found, is_symbol_error, symbol_report_text}
use Rattle.symbol_files.specs.CheckedFiles.{ChecksFrom}
use Rattle.renum_files.specs.RenumberedFiles.{File, RenumberedData, renumbered_files}
use Rattle.table_files.specs.FilledFiles.{FilledData, filled_file}
use Rattle.table_files.specs.OpenedFiles.{opened_file}
use Rattle.gafd_run.specs.Faults.{circuit_fault, renumber_fault, run_fault, table_file_fault}
use Rattle.gafd_run.specs.declared.fault.RunFault.{RunFault}
use Rattle.gafd_run.specs.declared.fault.RunFault.TheVariants as faults

-- a text that goes out, the status with which the program then ends, and the files that are written
-- before, in order
pub record AnswerData : Type 0 where
  pub text : List ℕ
  pub status : ℕ
  pub files : List File

-- what a command comes to: an answer, or a fault
abbrev pub Outcome : Type 0
Outcome = Result AnswerData RunFault

-- the text goes out, and all is well
abbrev pub all_well : List ℕ → AnswerData
all_well text = record { text = text; status = 0; files = [] }

abbrev pub done : List ℕ → Outcome
done text = Ok (all_well text)

-- what a project comes to, by what its net list comes to: its sheets may have too many instances
abbrev pub ByNets : (Nets → Outcome) → ProjectData → Outcome → Type 0
ByNets end project outcome =
    (IsCrowded project × (outcome ≡ Err faults.TooManyInstances))
    ⊎ (¬ (IsCrowded project) × HasNetList end project outcome)

-- the same, given the answer by its net list
abbrev pub ByNetList : (ProjectData → Nets → AnswerData) → ProjectData → Outcome → Type 0
ByNetList answer project = ByNets (λ nets. Ok (answer project nets)) project

-- what files come to, with the faults of the program
abbrev pub as_run : {A : Type 0} → Result A FileFault → Result A RunFault
as_run (Ok a) = Ok a
as_run (Err fault) = Err (run_fault fault)

-- what sheets come to, with those below them and with their symbols, given what their project comes
-- to
abbrev pub SheetsTo :
    (ProjectData → Outcome → Type 0) → ProjectFiles → List (List ℕ) → Outcome → Type 0
SheetsTo ComesTo files names outcome =
    (gathered : Result ProjectData FileFault) × GathersTo files names gathered
    × Then (as_run gathered) ComesTo outcome

-- the same, given the answer by a net list
abbrev pub SheetsOf :
    (ProjectData → Nets → AnswerData) → ProjectFiles → List (List ℕ) → Outcome → Type 0
SheetsOf answer = SheetsTo (ByNetList answer)

-- the text of a net list in a form
abbrev pub listed : Form → ProjectData → Nets → AnswerData
listed form project nets = all_well (net_text form nets)

-- the SPICE text of a net list, or the fault of a package that keeps it from having one
abbrev pub circuit_or_fault : List ℕ → Option SpiceFault → Outcome
circuit_or_fault text None = done text
circuit_or_fault text (Some fault) = Err (circuit_fault fault)

-- a net list as a circuit for SPICE
abbrev pub circuit : Nets → Outcome
circuit nets = circuit_or_fault (spice_text nets) (spice_fault nets)

-- what a project comes to as a circuit
abbrev pub CircuitOf : ProjectData → Outcome → Type 0
CircuitOf = ByNets circuit

-- the report of a check; its status is 7 where an error is among what was found
abbrev pub check_reported : CheckData → AnswerData
check_reported check =
    record { text = check.text; status = if check.has_error then 7 else 0; files = [] }

-- the report of the check under a matrix
abbrev pub checked_under : List Level → ProjectData → Nets → AnswerData
checked_under matrix project nets = check_reported (check_of project matrix nets)

-- the matrix of a document, if its rows are those of one
abbrev pub matrix_or_fault : List ℕ → Option (List Level) → Result (List Level) RunFault
matrix_or_fault file None = Err (faults.BadRows file)
matrix_or_fault file (Some matrix) = Ok matrix

-- the matrix of bytes, if they are a document
abbrev pub matrix_of_document : List ℕ → Option Members → Result (List Level) RunFault
matrix_of_document file None = Err (faults.BadToml file)
matrix_of_document file (Some document) = matrix_or_fault file (matrix_in document)

-- what the file of a matrix comes to; where none is named, that is the usual matrix
abbrev pub MatrixComesTo : Files → Option (List ℕ) → Result (List Level) RunFault → Type 0
MatrixComesTo files None matrix = matrix ≡ Ok usual
MatrixComesTo files (Some file) matrix =
    FileComesTo (faults.Missing file)
    (λ bytes read. read ≡ matrix_of_document file (toml_document bytes)) (files file) matrix

-- a file with this name is a symbol
abbrev pub is_symbol_name : List ℕ → Bool
is_symbol_name name = ends_with nat_eq name (codes ".sym")

-- the canonical text of a symbol or of a sheet
abbrev pub TextOf : Bool → List ℕ → List ℕ → Outcome → Type 0
TextOf true name =
    ReadAs symbol_file (faults.Refused name)
    (λ symbol outcome. outcome ≡ done (symbol_text symbol))
TextOf false name =
    ReadAs sheet_file (faults.Refused name) (λ sheet outcome. outcome ≡ done (sheet_text sheet))

-- what the check comes to: the matrix is read before the sheets
abbrev pub CheckOf : Option Files → Option (List ℕ) → List (List ℕ) → Outcome → Type 0
CheckOf files matrix names outcome =
    (read : Result (List Level) RunFault) × OfSome files (λ known. MatrixComesTo known matrix read)
    × Then read
    (λ levels end. OfFiles files (λ known. SheetsOf (checked_under levels) known names end)) outcome

-- the report on symbols; its status is 7 where an error is among what was found
abbrev pub symbols_reported : List CheckedFile → AnswerData
symbols_reported files = record {
  text = symbol_report_text files;
  status = if list_any is_symbol_error (all_found files) then 7 else 0;
  files = [];
}

-- what the check of symbols comes to
abbrev pub SymbolsOf : Option Files → List (List ℕ) → Outcome → Type 0
SymbolsOf files names outcome =
    (read : Result (List CheckedFile) FileFault) × ChecksFrom files [] names read
    × Then (as_run read) (λ checked end. end ≡ Ok (symbols_reported checked)) outcome

-- the line that tells how many components got a number
abbrev pub renumber_line : ℕ → List ℕ
renumber_line count = codes "renumbered " ++ decimal count ++ codes "\n"

-- that line goes out after the files are written
abbrev pub written_down : RenumberedData → AnswerData
written_down r = record { text = renumber_line r.count; status = 0; files = r.files }

-- what numbering a project comes to
abbrev pub RenumbersTo : ProjectData → Outcome → Type 0
RenumbersTo project outcome =
    outcome ≡ result_map_both written_down renumber_fault (renumbered_files project)

-- the sheet of a file as the history of the edit that adds it
abbrev pub opened_history : List ℕ → List ℕ → Result (List EntryData) RunFault
opened_history sheet bytes = result_map_both (λ h. h) table_file_fault (opened_file sheet bytes)

-- what the file of a sheet comes to, opened so
abbrev pub OpensTo : List ℕ → Files → Result (List EntryData) RunFault → Type 0
OpensTo sheet files read =
    FileComesTo (faults.Missing sheet) (λ bytes end. end ≡ opened_history sheet bytes)
    (files sheet) read

-- what comes of the file of a sheet that is opened
abbrev pub Opened :
    Option Files → List ℕ → (List EntryData → Outcome → Type 0) → Outcome → Type 0
Opened files sheet Next outcome =
    (read : Result (List EntryData) RunFault) × OfSome files (λ known. OpensTo sheet known read)
    × Then read Next outcome

-- the table of a sheet goes out
abbrev pub tabled : List ℕ → List EntryData → Outcome
tabled sheet h = done (table_text (project h) sheet)

-- the line that tells how many components a table changes
abbrev pub fill_line : ℕ → List ℕ
fill_line count = codes "filled " ++ decimal count ++ codes "\n"

-- that line goes out after the file is written
abbrev pub filled_down : FilledData → AnswerData
filled_down f = record { text = fill_line f.count; status = 0; files = f.files }

-- what filling a table into a sheet comes to
abbrev pub fill_outcome : List ℕ → List ℕ → List EntryData → List ℕ → Outcome
fill_outcome sheet table h bytes =
    result_map_both filled_down table_file_fault (filled_file h sheet table bytes)

-- the same of the file of the table, which is read after that of the sheet
abbrev pub FillsTo : Option Files → List ℕ → List ℕ → List EntryData → Outcome → Type 0
FillsTo files sheet table h outcome = OfSome files
    (λ known. FileComesTo (faults.Missing table)
    (λ bytes end. end ≡ fill_outcome sheet table h bytes) (known table) outcome)

-- what so many steps of the work from a start come to: their text goes out
abbrev pub WorkOf : ℕ → ℕ → Outcome → Type 0
WorkOf start count outcome =
    (text : List ℕ) × WorkComesTo start count text × (outcome ≡ done text)

-- what a command comes to over the files that a folder tells; a serving and a copying come to
-- nothing by them
abbrev pub CommandComesTo : Option Files → Command → Outcome → Type 0
CommandComesTo files (Netlist form names) outcome =
    OfFiles files (λ known. SheetsOf (listed form) known names outcome)
CommandComesTo files (Spice names) outcome =
    OfFiles files (λ known. SheetsTo CircuitOf known names outcome)
CommandComesTo files (Drc matrix names) outcome = CheckOf files matrix names outcome
CommandComesTo files (Export name) outcome = OfSome files
    (λ known. FileComesTo (faults.Missing name) (TextOf (is_symbol_name name) name) (known name)
    outcome)
CommandComesTo files (Symcheck names) outcome = SymbolsOf files names outcome
CommandComesTo files (Renumber names) outcome =
    OfFiles files (λ known. SheetsTo RenumbersTo known names outcome)
CommandComesTo files (Table sheet) outcome =
    Opened files sheet (λ h end. end ≡ tabled sheet h) outcome
CommandComesTo files (Fill sheet table) outcome =
    Opened files sheet (FillsTo files sheet table) outcome
CommandComesTo files (Work start count) outcome = WorkOf start count outcome
CommandComesTo files (Serve address store access) outcome = ⊥
CommandComesTo files (Store store database) outcome = ⊥

-- what the arguments come to: what their command comes to, or a fault of usage
abbrev pub ComesTo : Option Files → Option Command → Outcome → Type 0
ComesTo files None outcome = outcome ≡ Err faults.Usage
ComesTo files (Some command) outcome = CommandComesTo files command outcome

-- the arguments ask for a command that writes no file
abbrev pub IsReading : Option Command → Type 0
IsReading (Some (Renumber names)) = ⊥
IsReading (Some (Fill sheet table)) = ⊥
IsReading other = ⊤

-- the files fix the outcome: the arguments don't ask for the work
abbrev pub IsFixed : Option Command → Type 0
IsFixed (Some (Work start count)) = ⊥
IsFixed other = ⊤
